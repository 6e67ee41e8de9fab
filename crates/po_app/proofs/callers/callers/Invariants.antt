use Rattle.std.proofs.Common.{◌≡◌, [], take, replicate, length}
use Rattle.po_app.specs.Obligations.{each_from}
use Rattle.po_app.specs.Book.{function_calls}
use Rattle.po_app.specs.Callers.{Gains}
use Rattle.po_app.proofs.callers.callers.Given as goal

abbrev pub invariant-loop-function : goal.invariant-loop-function
invariant-loop-function l = record {
  counted : l.fun ≡ l.function-index;
  functions : l.function-items ≡ l.project.functions;
  gains : Gains (replicate (length l.project.functions) []) l.callers.items (λ f. each_from (function_calls f) 0 (take l.function-index l.function-items));
}
