use Rattle.std.proofs.Common.{refl, subst}
use Rattle.po_core.specs.Book.{Book, IsBook}
use Rattle.po_ledger.proofs.Kept.{order_here}
use Rattle.po_ledger.proofs.Starts.{line_none, line_some}
use Rattle.po_ledger.proofs.ledger.Ledger.first_in_line.Goals as goal

pub returns : goal.returns
returns g c =
    let law = subst (λ (z : Book _ _ _). IsBook g.R.Pred.PartialEq.eq z) c.self.invariant.0.same_book (g.met.R.Rulebook.lawful c.self.inside.book.now) in
    record {
      some = line_some _ _ _ c.self.view_is c.self.inside.marks refl c.self.inside.hands.items c.self.invariant.1 refl c.first_in_line.result c.first_in_line.ensures;
      none = line_none _ _ _ c.self.view_is c.self.inside.marks refl c.self.inside.hands.items c.self.invariant.1 refl _ law (order_here _ _ _ _ c.self.invariant.0 c.legal_lists_are_orderly.ensures).functions_there c.first_in_line.result c.first_in_line.ensures;
    }
