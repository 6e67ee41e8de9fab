use Rattle.std.proofs.Common.{◌<◌, length, ap, refl, subst, sym, get_or, []}
use Rattle.po_ledger.specs.View.{TicketView}
use Rattle.po_ledger.proofs.Items.{item_got, ticket_kept, ticket_with}
use Rattle.ledger_tests.proofs.ticket.ListTicket.mark_settled.Goals as goal

pub invariant_of-self : goal.invariant_of-self
invariant_of-self g c =
    let hands = ap (λ (z : TicketView _ _). z.hand) (sym c.self.view_is) in
    let e = get_or c.as_slice.result.now c.args.k c.index-as_slice-k.result in
    ticket_kept g.J.Naming.book c.self.inside.hand c.set.new.self [] c.args.k e c.self.invariant (item_got c.self.inside.hand c.self.inside.hand c.as_slice.result.now c.args.k c.index-as_slice-k.result refl (subst (λ z. c.args.k < length z) hands c.requires) c.as_slice.ensures) c.set.ensures

pub returns : goal.returns
returns g c =
    let e = get_or c.as_slice.result.now c.args.k c.index-as_slice-k.result in
    (e.0, (e.1, item_got c.self.inside.hand c.args.self.now.hand c.as_slice.result.now c.args.k c.index-as_slice-k.result (ap (λ (z : TicketView _ _). z.hand) c.self.view_is) c.requires c.as_slice.ensures), ticket_with _ c.args.self.now c.set.new.self c.args.k e.0 c.self.view_is c.set.ensures)
