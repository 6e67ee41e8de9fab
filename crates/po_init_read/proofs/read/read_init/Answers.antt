use Rattle.po_init_read.proofs.Leading.{leads_first, leads_whole}
use Rattle.po_init_read.proofs.read.read_init.Goals as goal

pub loop-next-init : goal.loop-next-init
loop-next-init c = leads_first _ _ _ _ c.new.result c.new.ensures

pub returns-in-Whole-clause-found : goal.returns-in-Whole-clause-found
returns-in-Whole-clause-found c = leads_whole c.loop-next.state c.in-Whole.x c.in-Whole.end c.loop-next.invariant (rw c.in-Whole.is at c.in_ok-next.ensures)
