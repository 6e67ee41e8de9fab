use Rattle.std.proofs.Common.{ℕ, subst, sym}
use Rattle.std.specs.List.{Contains}
use Rattle.po_core.specs.Book.{Book, IsBook}
use Rattle.po_core.specs.Core.{IsUntaken}
use Rattle.po_core.specs.declared.event.Mark.TheVariants.{Untaken}
use Rattle.po_ledger.specs.Calls.{Counts}
use Rattle.po_ledger.specs.View.{LedgerView}
use Rattle.po_ledger.proofs.Kept.{order_here}
use Rattle.po_ledger.proofs.Queued.{untaken_counted}
use Rattle.po_ledger.proofs.ledger.Ledger.untaken_count.Goals as goal

pub returns : goal.returns
returns g c =
    let law = subst (λ (z : Book _ _ _). IsBook g.R.Pred.PartialEq.eq z) c.self.invariant.0.same_book (g.met.R.Rulebook.lawful c.self.inside.book.now) in
    let all = untaken_counted _ _ law c.self.inside.marks c.self.invariant.1.waiting (order_here _ _ _ _ c.self.invariant.0 c.legal_lists_are_orderly.ensures).functions_there in
    subst (λ (z : LedgerView _ _ _). Counts (IsUntaken z.state) c.waiting_count.result) c.self.view_is (subst (λ (n : ℕ). Counts (λ o. Contains c.self.inside.marks.items (o, Untaken)) n) (sym c.waiting_count.ensures) all)
