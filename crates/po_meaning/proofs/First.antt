-- One obligation at most is violated first.
use Rattle.std.specs.Prelude.{ℕ, ◌≡◌, ◌<◌, ◌⊎◌, List, Some, slice_get}
use Rattle.std.proofs.Common.{sym, ap, subst, inl, inr}
use Rattle.std.proofs.lemmas.Bool.{cases_order}
use Rattle.po_lists.proofs.Options.{one_value}
use Rattle.po_meaning.specs.Checks.{Asked, asked}
use Rattle.po_meaning.specs.Laws.{OneIsFirst, NoneIsFirst}

-- what fails first stands at one place
one_place : (xs : List Asked) (P : Asked → Type 0) (i j : ℕ) (a b : Asked) → slice_get xs i ≡ Some a → slice_get xs j ≡ Some b →
    ((k : ℕ) (c : Asked) → k < i → slice_get xs k ≡ Some c → P c) → ((k : ℕ) (c : Asked) → k < j → slice_get xs k ≡ Some c → P c) → (P a → ⊥) → (P b → ⊥) →
    (i ≡ j) ⊎ ((i < j) ⊎ (j < i)) → a ≡ b
one_place xs P i j a b here there up_to_i up_to_j fails misses (inl same) = one_value (slice_get xs i) a b here (subst (λ k. slice_get xs k ≡ Some b) (sym same) there)
one_place xs P i j a b here there up_to_i up_to_j fails misses (inr (inl less)) = absurd (fails (up_to_j i a less here))
one_place xs P i j a b here there up_to_i up_to_j fails misses (inr (inr more)) = absurd (misses (up_to_i j b more there))

pub one_is_first : OneIsFirst
one_is_first required p r s o q a b =
    ap (λ (c : Asked). c.0) (one_place (asked required p r s) _ a.place b.place (o, a.pred) (q, b.pred) a.checked b.checked a.before b.before a.fails b.fails (cases_order a.place b.place))

pub none_is_first : NoneIsFirst
none_is_first required p r s o a held = a.fails (held a.place (o, a.pred) a.checked)
