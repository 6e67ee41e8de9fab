-- One more node at the end of an order.
use Rattle.std.proofs.Common.{◌≡◌, ℕ, ◌<◌, List, [], ◌∷◌, ◌++◌, length, Some, get_or, sym, ap, ◌∙◌, subst, inl, inr}
use Rattle.std.proofs.Math.ListN.{set, length-set}
use Rattle.std.specs.List.{slice_get}
use Rattle.std.proofs.lemmas.Bool.{cases_eq}
use Rattle.std.proofs.lemmas.List.{get_or-set_same, get_or-set_other}
use Rattle.po_lists.proofs.Places.{kept_at, behind_at, pushed_cases}
use Rattle.po_base.specs.declared.numbers.NodeNo.{NodeNo}
use Rattle.po_flow.specs.Order.{IsPlaced, StandOnce}

module _ (nodes : List NodeNo) (places : List ℕ) (n : NodeNo) (there : n.0 < length places) where
  pub placed_here : IsPlaced (nodes ++ n ∷ []) (set places n.0 (length nodes)) n.0
  placed_here = ap (λ p. slice_get (nodes ++ n ∷ []) p) (get_or-set_same places n.0 (length nodes) 0 there) ∙ behind_at nodes [] n

  pub placed_before : (k : ℕ) → IsPlaced nodes places k → IsPlaced (nodes ++ n ∷ []) (set places n.0 (length nodes)) k
  placed_before k h =
      elim (cases_eq k n.0) [
        | inl q ↦ subst (λ i. IsPlaced (nodes ++ n ∷ []) (set places n.0 (length nodes)) i) (sym q) placed_here
        | inr d ↦ ap (λ p. slice_get (nodes ++ n ∷ []) p) (get_or-set_other places n.0 k (length nodes) 0 d) ∙ kept_at nodes (n ∷ []) (get_or places k 0) _ h
      ]

  pub once_more : StandOnce nodes places → (IsPlaced nodes places n.0 → ⊥) → StandOnce (nodes ++ n ∷ []) (set places n.0 (length nodes))
  once_more once new at m h =
      elim (pushed_cases nodes n at m h) [
        | inl before ↦
            let was = once at m before in
            let apart : m.0 ≡ n.0 → ⊥ = λ q. new (subst (λ k. slice_get nodes (get_or places k 0) ≡ Some (record { 0 = k })) q (ap (λ p. slice_get nodes p) was.1 ∙ before)) in
            (rw (length-set places n.0 (length nodes)) was.0, get_or-set_other places n.0 m.0 (length nodes) 0 apart ∙ was.1)
        | inr last ↦
            let q = ap (λ k. k.0) last.1 in
            (rw (length-set places n.0 (length nodes), ← q) there, ap (λ k. get_or (set places n.0 (length nodes)) k 0) (sym q) ∙ get_or-set_same places n.0 (length nodes) 0 there ∙ sym last.0)
      ]
