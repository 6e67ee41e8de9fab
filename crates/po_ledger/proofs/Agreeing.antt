-- Whether a ticket is that of a hand that the ledger keeps.
use Rattle.std.proofs.Common.{◌≡◌, ◌↔◌, ℕ, ◌+◌, ◌<◌, List, length, take, get_or, refl, sym, ◌∙◌, ap, subst, inl, inr}
use Rattle.std.proofs.Math.Bool.{beq}
use Rattle.std.proofs.lemmas.Bool.{false≢true}
use Rattle.std.specs.Prelude.{Bool, true, false, Option, Some, slice_get, IsTrue}
use Rattle.po_base.specs.declared.numbers.FileNo.{FileNo}
use Rattle.po_core.specs.declared.event.Hand.{Hand}
use Rattle.po_core.specs.declared.event.Mark.{Mark}
use Rattle.po_core.specs.declared.event.Mark.TheVariants.{Settled}
use Rattle.po_core.specs.declared.obl.Obl.{Obl}
use Rattle.po_core.specs.declared.obl.Verdict.{Verdict}
use Rattle.po_ledger.specs.Parts.{HasVerdict, AgreesOn, IsHandOf}
use Rattle.po_ledger.specs.View.{LedgerView, TicketView, Fits, items_of}
use Rattle.po_ledger.proofs.Lists.{front_cases}

module _ {P N : Type 0} (marks : List (Obl P × Mark P N)) where
  pub agree_more : (own : List (Obl P × Bool)) (i : ℕ) (e : Obl P × Bool) → i < length own → e ≡ get_or own i e → AgreesOn marks (take i own) → (IsTrue e.1 ↔ HasVerdict marks e.0) → AgreesOn marks (take (i + 1) own)
  agree_more own i e l q before here o x h = elim (front_cases own i e (o, x) l q h) [
    | inl k ↦ before o x k
    | inr k ↦ subst (λ (z : Obl P × Bool). IsTrue z.1 ↔ HasVerdict marks z.0) k here
  ]

-- a file has one hand
pub one_hand : {P : Type 0} (hands : List (Option (Hand P))) (k : ℕ) (one other : Hand P) → slice_get hands k ≡ Some (Some one) → slice_get hands k ≡ Some (Some other) → other ≡ one
one_hand {P} hands k one other a b =
    let both : ◌≡◌ {A = Option (Option (Hand P))} (Some (Some other)) (Some (Some one)) = sym b ∙ a in
    cc

module _ {P N T : Type 0} (l now : LedgerView P N T) (q : l ≡ now) (t : TicketView P T) where
  pub fits_when : (hands : List (Option (Hand P))) → hands ≡ l.state.hands → (marks : List (Obl P × Mark P N)) → marks ≡ l.state.marks → (file : FileNo) → file ≡ t.file → (worker : ℕ) → worker ≡ t.worker → (own : List (Obl P × Bool)) → own ≡ t.hand → (hand : Hand P) → slice_get hands file.0 ≡ Some (Some hand) → (r : Bool) → (IsTrue r ↔ IsHandOf marks hand worker own) → IsTrue r ↔ Fits now.state t
  fits_when hands eh marks em file ef worker ew own eo hand at r tells =
      let same_hands : hands ≡ now.state.hands = eh ∙ ap (λ (z : LedgerView P N T). z.state.hands) q in
      let same_marks : marks ≡ now.state.marks = em ∙ ap (λ (z : LedgerView P N T). z.state.marks) q in
      let here : slice_get now.state.hands t.file.0 ≡ Some (Some hand) = ap (λ (z : List (Option (Hand P))). slice_get z t.file.0) (sym same_hands) ∙ (ap (λ (z : FileNo). slice_get hands z.0) (sym ef) ∙ at) in (
        λ h. (
            let is = tells.0 h in
            record {
              hand = hand;
              holds = here;
              by_worker = is.by_worker ∙ ew;
              same_items = is.same_items ∙ ap items_of eo;
              same_settled = subst (λ (z : List (Obl P × Bool)). AgreesOn now.state.marks z) eo (subst (λ (z : List (Obl P × Mark P N)). AgreesOn z own) same_marks is.same_settled);
            }
            ),
        λ f. (
            let one : f.hand ≡ hand = one_hand now.state.hands t.file.0 hand f.hand here f.holds in
            tells.1 (record {
              by_worker = ap (λ (z : Hand P). z.worker) (sym one) ∙ (f.by_worker ∙ sym ew);
              same_items = ap (λ (z : Hand P). z.items) (sym one) ∙ (f.same_items ∙ ap items_of (sym eo));
              same_settled = subst (λ (z : List (Obl P × Mark P N)). AgreesOn z own) (sym same_marks) (subst (λ (z : List (Obl P × Bool)). AgreesOn now.state.marks z) (sym eo) f.same_settled);
            })
            ),
      )

-- two tests agree just where what they tell goes together
pub both_tell : {A : Type 0} (a b : Bool) → (IsTrue b ↔ A) → IsTrue (beq a b) ↔ (IsTrue a ↔ A)
both_tell true true h = (λ q. h, λ q. refl)
both_tell true false h = (λ q. absurd (false≢true q), λ k. h.1 (k.0 refl))
both_tell false true h = (λ q. absurd (false≢true q), λ k. k.1 (h.0 refl))
both_tell false false h = (λ q. h, λ q. refl)
