-- Two predicates are one or they aren't, and so an item is in a list or it isn't.
use Rattle.std.proofs.Common.{◌≡◌, List, [], ◌∷◌, inl, inr}
use Rattle.std.specs.Ordering.{eq_by_cmp}
use Rattle.std.proofs.lemmas.Bool.{cases_Bool, both_ways}
use Rattle.po_core.specs.Decided.{IsDecided}
use Rattle.po_lists.proofs.Members.{Has}
use Rattle.po_pred.specs.declared.pred.Pred.{Pred}
use Rattle.po_pred.specs.Order.{pred_cmp}
use Rattle.po_pred.specs.OrderLaws.{equal_are_same}

pub predicates_decided : (p q : Pred) → IsDecided (p ≡ q)
predicates_decided p q =
    let tells = equal_are_same p q in
    elim (cases_Bool (eq_by_cmp pred_cmp p q)) [ inl so ↦ inl (tells.0 so) | inr not_so ↦ inr (λ h. both_ways (eq_by_cmp pred_cmp p q) not_so (tells.1 h)) ]

pub has_decided : {X : Type 0} → ((x y : X) → IsDecided (x ≡ y)) → (xs : List X) (x : X) → IsDecided (Has xs x)
has_decided decided [] x = inr (λ h. h)
has_decided decided (y ∷ ys) x =
    elim (decided y x) [
      | inl same ↦ inl (inl same)
      | inr other ↦ elim (has_decided decided ys x) [ inl there ↦ inl (inr there) | inr none ↦ inr (λ h. elim h [ inl same ↦ other same | inr there ↦ none there ]) ]
    ]
