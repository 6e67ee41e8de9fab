use Rattle.std.proofs.Common.{◌≡◌, [], replicate}
use Rattle.po_ir.proofs.calls.no_calls.Given as goal

abbrev pub invariant-loop : goal.invariant-loop
invariant-loop l = l.callers ≡ replicate l.counter []
