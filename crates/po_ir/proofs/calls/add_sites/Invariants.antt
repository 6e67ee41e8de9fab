use Rattle.std.proofs.Common.{◌≡◌, ◌++◌, take}
use Rattle.po_ir.specs.General.{each_from}
use Rattle.po_ir.specs.Calls.{node_call}
use Rattle.po_ir.proofs.calls.add_sites.Given as goal

abbrev pub invariant-loop-place : goal.invariant-loop-place
invariant-loop-place l = record {
  nodes : l.node-items ≡ l.function.graph.nodes;
  sites : l.sites ≡ l.fn.sites ++ each_from (node_call l.callee l.fun.0) 0 (take l.place l.node-items);
}
