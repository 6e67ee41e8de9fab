-- The table that a verdict may add is that of its item's function.
use Rattle.std.proofs.Common.{◌≡◌, ℕ, List, sym, ◌∙◌, ap, subst}
use Rattle.std.specs.Prelude.{Bool}
use Rattle.std.proofs.lemmas.Option.{same_Some}
use Rattle.po_base.specs.declared.numbers.FunNo.{FunNo}
use Rattle.po_core.specs.declared.obl.Obl.{Obl}
use Rattle.po_ledger.specs.Calls.{IsItemAt}
use Rattle.po_ledger.specs.Made.{AddsTable}
use Rattle.po_ledger.specs.View.{TicketView}

pub adds_seen : {P T : Type 0} (l now : TicketView P T) (k : ℕ) (item : Obl P) (new : List (FunNo × T)) → l ≡ now → IsItemAt now k item → AddsTable item.fun l.tables new → (o : Obl P) → IsItemAt now k o → AddsTable o.fun now.tables new
adds_seen {P} {T} l now k item new q here adds o at =
    let one : item ≡ o = ap (λ (z : Obl P × Bool). z.0) (same_Some (item, here.0) (o, at.0) (sym here.1 ∙ at.1)) in
    subst (λ (z : TicketView P T). AddsTable o.fun z.tables new) q (subst (λ (z : Obl P). AddsTable z.fun l.tables new) one adds)
