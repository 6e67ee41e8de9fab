use Rattle.po_app.specs.Book.{function_calls}
use Rattle.po_app.proofs.Gains.{gains_step}
use Rattle.std.proofs.Common.{arith}
use Rattle.po_app.proofs.callers.callers.Goals as goal

pub loop-function-preserved : goal.loop-function-preserved
loop-function-preserved c = record {
  counted = omega arith;
  functions = c.loop-function.invariant.functions;
  gains = gains_step function_calls _ _ _ _ _ _ _ c.loop-function-test.true c.function-item.is c.loop-function.invariant.counted c.loop-function.invariant.gains c.in_ok-add_function.ensures;
}
