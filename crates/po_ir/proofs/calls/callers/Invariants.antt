use Rattle.std.proofs.Common.{◌≡◌, [], take, replicate, length}
use Rattle.po_ir.specs.General.{each_from}
use Rattle.po_ir.specs.Calls.{function_calls}
use Rattle.po_ir.specs.Callers.{Gains}
use Rattle.po_ir.proofs.calls.callers.Given as goal

abbrev pub invariant-loop-place : goal.invariant-loop-place
invariant-loop-place l = record {
  functions : l.function-items ≡ l.project.functions;
  gains : Gains (replicate (length l.project.functions) []) l.callers.items (λ f. each_from (function_calls f) 0 (take l.place l.function-items));
}
