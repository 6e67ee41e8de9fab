use Rattle.po_type_calls.proofs.Printed.{IsDone}
use Rattle.po_type_calls.proofs.printing.prints.Given as goal

abbrev pub invariant-loop-i : goal.invariant-loop-i
invariant-loop-i l = IsDone l.fn.target l.fn.specs l.fn.vs l.i l.conversions
