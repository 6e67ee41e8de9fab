use Rattle.po_step.proofs.Returning.{kills_need, kills_next}
use Rattle.po_step.proofs.returns.kill_all.Goals as goal

pub kill_slot-requires : goal.kill_slot-requires
kill_slot-requires c = kills_need c.args.slots.now c.args.m.now.blocks c.loop-slot.m.blocks c.loop-slot.slot-index c.requires c.loop-slot.invariant c.loop-slot-test.true

pub loop-slot-preserved : goal.loop-slot-preserved
loop-slot-preserved c = kills_next c.args.slots.now c.args.m.now.blocks c.loop-slot.m.blocks c.kill_slot.new.m.blocks c.loop-slot.slot-index c.loop-slot-test.true c.loop-slot.invariant c.kill_slot.ensures
