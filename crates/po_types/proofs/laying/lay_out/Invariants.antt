use Rattle.po_types.proofs.Lays.{Laid}
use Rattle.po_types.proofs.laying.lay_out.Given as goal

abbrev pub invariant-loop-i : goal.invariant-loop-i
invariant-loop-i l = Laid l.fn.members l.i l.offsets l.end l.align
