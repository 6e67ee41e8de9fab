use Rattle.std.proofs.Common.{◌≡◌, take}
use Rattle.po_ir.specs.General.{each_from}
use Rattle.po_ir.specs.Calls.{function_calls}
use Rattle.po_ir.proofs.calls.call_sites.Given as goal

abbrev pub invariant-loop-place : goal.invariant-loop-place
invariant-loop-place l = record {
  functions : l.function-items ≡ l.project.functions;
  sites : l.sites ≡ each_from (function_calls l.callee) 0 (take l.place l.function-items);
}
