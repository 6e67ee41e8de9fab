use Rattle.std.proofs.Common.{◌≡◌, drop}
use Rattle.po_astate.specs.Each.{each_within}
use Rattle.po_astate.proofs.parts.each_within.Given as goal

abbrev pub invariant-loop-i : goal.invariant-loop-i
invariant-loop-i g l = each_within g.P.Part.within (drop l.i l.xs) (drop l.i l.ys) ≡ each_within g.P.Part.within l.xs l.ys
