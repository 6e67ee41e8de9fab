use Rattle.po_ir.proofs.Reached.{Visiting}
use Rattle.po_ir.proofs.reach.reach.Given as goal

abbrev pub invariant-loop : goal.invariant-loop
invariant-loop l = Visiting l.callers l.here l.marks l.stack
