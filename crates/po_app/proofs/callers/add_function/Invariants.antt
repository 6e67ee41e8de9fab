use Rattle.std.proofs.Common.{◌≡◌, take}
use Rattle.po_app.specs.Obligations.{each_from}
use Rattle.po_app.specs.Book.{node_call}
use Rattle.po_app.specs.Callers.{Gains}
use Rattle.po_app.proofs.callers.add_function.Given as goal

abbrev pub invariant-loop-node : goal.invariant-loop-node
invariant-loop-node l = record {
  counted : l.at ≡ l.node-index;
  nodes : l.node-items ≡ l.function.graph.nodes;
  gains : Gains l.fn.callers.items l.callers.items (λ f. each_from (node_call f l.fun.0) 0 (take l.node-index l.node-items));
}
