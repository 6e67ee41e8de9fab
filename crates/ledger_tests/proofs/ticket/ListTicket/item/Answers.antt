use Rattle.std.proofs.Common.{ap}
use Rattle.po_ledger.specs.View.{TicketView}
use Rattle.po_ledger.proofs.Items.{item_read}
use Rattle.ledger_tests.proofs.ticket.ListTicket.item.Goals as goal

pub returns : goal.returns
returns g c = (c.index-as_slice-k.result.1, item_read c.self.inside.hand c.args.self.now.hand c.as_slice.result.now c.args.k c.index-as_slice-k.result (ap (λ (z : TicketView _ _). z.hand) c.self.view_is) c.requires c.as_slice.ensures c.index-as_slice-k.is)
