use Rattle.std.proofs.Common.{◌≡◌, ◌++◌, drop}
use Rattle.po_bases.specs.General.{each_join}
use Rattle.po_astate.proofs.parts.join_each.Given as goal

abbrev pub invariant-loop-i : goal.invariant-loop-i
invariant-loop-i g l = l.list ++ each_join g.P.Part.joined (drop l.i l.xs) (drop l.i l.ys) ≡ each_join g.P.Part.joined l.xs l.ys
