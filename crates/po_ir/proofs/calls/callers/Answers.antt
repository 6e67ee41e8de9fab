use Rattle.po_ir.specs.Calls.{function_calls}
use Rattle.po_ir.proofs.Gains.{gains_step}
use Rattle.po_ir.proofs.calls.callers.Goals as goal

pub loop-place-preserved : goal.loop-place-preserved
loop-place-preserved c = record {
  functions = c.loop-place.invariant.functions;
  gains = gains_step function_calls _ _ _ _ _ _ _ c.loop-place-test.true c.function-item.is c.in_ok-counted.ensures c.loop-place.invariant.gains c.in_ok-add_function.ensures;
}
