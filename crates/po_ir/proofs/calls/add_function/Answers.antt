use Rattle.po_ir.specs.Calls.{node_call}
use Rattle.po_ir.proofs.Gains.{gains_step}
use Rattle.po_ir.proofs.calls.add_function.Goals as goal

pub loop-place-preserved : goal.loop-place-preserved
loop-place-preserved c = record {
  nodes = c.loop-place.invariant.nodes;
  gains = gains_step (λ f. node_call f c.args.fun.0) _ _ _ _ _ _ _ c.loop-place-test.true c.node-item.is c.in_ok-counted.ensures c.loop-place.invariant.gains c.in_ok-add_node.ensures;
}
