use Rattle.std.proofs.Common.{◌≡◌, take}
use Rattle.po_ir.specs.General.{each_from}
use Rattle.po_ir.specs.Calls.{node_call}
use Rattle.po_ir.specs.Callers.{Gains}
use Rattle.po_ir.proofs.calls.add_function.Given as goal

abbrev pub invariant-loop-place : goal.invariant-loop-place
invariant-loop-place l = record {
  nodes : l.node-items ≡ l.function.graph.nodes;
  gains : Gains l.fn.callers.items l.callers.items (λ f. each_from (node_call f l.fun.0) 0 (take l.place l.node-items));
}
