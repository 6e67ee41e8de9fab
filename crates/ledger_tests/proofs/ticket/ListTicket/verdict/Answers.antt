use Rattle.po_ledger.proofs.Items.{item_there}
use Rattle.ledger_tests.proofs.ticket.ListTicket.verdict.Goals as goal

pub table-requires : goal.table-requires
table-requires g c = item_there g.J.Naming.book _ _ c.args.self.now c.args.k c.item.result.now c.requires.same_book c.self.view_is c.self.invariant c.item.ensures
