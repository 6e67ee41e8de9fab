use Rattle.po_type_calls.proofs.Passed.{IsLeft}
use Rattle.po_type_calls.proofs.passing.passes.Given as goal

abbrev pub invariant-loop-i : goal.invariant-loop-i
invariant-loop-i l = IsLeft l.fn.context l.fn.xs l.fn.vs l.fn.ts l.i
