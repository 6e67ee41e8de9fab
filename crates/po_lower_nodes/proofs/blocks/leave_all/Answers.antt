use Rattle.std.proofs.Common.{refl}
use Rattle.po_lower_nodes.proofs.Groups.{adds_none, leaves_more, leaves_all}
use Rattle.po_lower_nodes.proofs.blocks.leave_all.Goals as goal

pub loop-slot-init : goal.loop-slot-init
loop-slot-init c = adds_none _ _ refl

pub loop-slot-preserved : goal.loop-slot-preserved
loop-slot-preserved c = leaves_more _ _ _ c.args.spot.now c.args.slots.now c.loop-slot.slot-index _ c.loop-slot-test.true c.loop-slot.invariant c.in_ok-leave.ensures

pub returns : goal.returns
returns c = leaves_all _ _ c.args.spot.now c.args.slots.now c.loop-slot.slot-index c.loop-slot-test.false c.loop-slot.invariant
