use Rattle.std.proofs.Common.{refl}
use Rattle.po_lower_nodes.proofs.Groups.{adds_none, enters_more, enters_all}
use Rattle.po_lower_nodes.proofs.blocks.enter_all.Goals as goal

pub loop-variable-init : goal.loop-variable-init
loop-variable-init c = adds_none _ _ refl

pub loop-variable-preserved : goal.loop-variable-preserved
loop-variable-preserved c = enters_more _ _ _ c.args.variables.now c.loop-variable.variable-index c.variable-item.result c.loop-variable-test.true c.variable-item.is c.loop-variable.invariant c.in_ok-enter.ensures

pub returns : goal.returns
returns c = enters_all _ _ c.args.variables.now c.loop-variable.variable-index c.loop-variable-test.false c.loop-variable.invariant
