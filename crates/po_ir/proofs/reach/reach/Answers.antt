use Rattle.po_ir.proofs.Reached.{visiting_starts, visit_keeps, visited}
use Rattle.po_ir.proofs.reach.reach.Goals as goal

pub loop-init : goal.loop-init
loop-init c = visiting_starts c.args.callers.now c.args.here.now _ _ c.len.result c.len.ensures c.in_ok-marks.ensures c.in_ok-stack.ensures

pub returns-in-None : goal.returns-in-None
returns-in-None c = visited c.args.callers.now c.args.here.now c.loop.marks c.loop.stack c.requires c.loop.invariant c.in-None.ensures.0

pub loop-preserved : goal.loop-preserved
loop-preserved c = visit_keeps c.args.callers.now c.args.here.now c.loop.marks c.visit.new.marks c.loop.stack _ c.visit.new.stack c.in-Some.fun c.loop.invariant c.in-Some.ensures c.in_ok-visit-in-Some.ensures
