use Rattle.po_app.specs.Book.{node_call}
use Rattle.po_app.proofs.Gains.{gains_step}
use Rattle.std.proofs.Common.{arith}
use Rattle.po_app.proofs.callers.add_function.Goals as goal

pub loop-node-preserved : goal.loop-node-preserved
loop-node-preserved c = record {
  counted = omega arith;
  nodes = c.loop-node.invariant.nodes;
  gains = gains_step (λ f. node_call f c.args.fun.0) _ _ _ _ _ _ _ c.loop-node-test.true c.node-item.is c.loop-node.invariant.counted c.loop-node.invariant.gains c.in_ok-add_node.ensures;
}
