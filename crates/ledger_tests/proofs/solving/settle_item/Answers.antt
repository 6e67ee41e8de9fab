use Rattle.po_ledger.proofs.WholeHand.{item_done}
use Rattle.ledger_tests.proofs.solving.settle_item.Goals as goal

pub returns-clause-ok : goal.returns-clause-ok
returns-clause-ok g c = item_done g.J.Naming.book c.args.k c.args.verdict c.args.t.now c.post_before.new.t c.settle.new.t _ _ _ c.post_before.ensures.ticket c.in_ok-post_before.ensures.ok c.settle.ensures
