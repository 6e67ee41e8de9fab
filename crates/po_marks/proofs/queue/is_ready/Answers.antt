use Rattle.po_marks.proofs.InLine.{ready_back}
use Rattle.po_marks.proofs.queue.is_ready.Goals as goal

pub returns-then-not-is_empty : goal.returns-then-not-is_empty
returns-then-not-is_empty g c = ready_back c.args.queue.now c.is_empty.result c.if-not-queue.true c.is_empty.ensures c.if-not-is_empty.true
