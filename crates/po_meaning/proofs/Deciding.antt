-- Where each obligation is decided, one is violated first or all hold.
use Rattle.std.specs.Prelude.{ℕ, zero, suc, ◌≡◌, ◌≢◌, ◌≤◌, ◌<◌, ◌⊎◌, List, Some, length, slice_get}
use Rattle.std.proofs.Common.{subst, arith, inl, inr}
use Rattle.std.proofs.lemmas.Option.{slice_get_within}
use Rattle.std.proofs.lemmas.Bool.{cases_order}
use Rattle.po_lists.proofs.Options.{one_value}
use Rattle.po_lists.proofs.Places.{item_at}
use Rattle.po_core.specs.declared.obl.Obl.{Obl}
use Rattle.po_pred.specs.declared.pred.Pred.{Pred}
use Rattle.po_memory.specs.Holding.{Holds}
use Rattle.po_meaning.specs.Checks.{Asked, asked, AllHold, FirstViolated}
use Rattle.po_meaning.specs.Following.{IsDecided, OneOrAll}
use Rattle.po_meaning.proofs.Places.{same_or_not}

-- the first item that isn't so
pub record First (xs : List Asked) (P : Asked → Type 0) : Type 0 where
  pub place : ℕ
  pub item : Asked
  pub there : slice_get xs place ≡ Some item
  pub before : (j : ℕ) (a : Asked) → j < place → slice_get xs j ≡ Some a → P a
  pub fails : P item → ⊥

abbrev pub AllBelow : List Asked → (Asked → Type 0) → ℕ → Type 0
AllBelow xs P n = (j : ℕ) (a : Asked) → j < n → slice_get xs j ≡ Some a → P a

module _ (xs : List Asked) (P : Asked → Type 0) (decided : (j : ℕ) (a : Asked) → slice_get xs j ≡ Some a → IsDecided (P a)) where
  one_more : (n : ℕ) → AllBelow xs P n → (a : Asked) → slice_get xs n ≡ Some a → P a → AllBelow xs P (suc n)
  one_more n below a there is j b less here = by (same_or_not j n)
    where
      by : (j ≡ n) ⊎ (j ≢ n) → P b
      by (inl same) = subst P (one_value (slice_get xs n) a b there (subst (λ (k : ℕ). slice_get xs k ≡ Some b) same here)) is
      by (inr other) = below j b (below_of (cases_order j n)) here
        where
          below_of : (j ≡ n) ⊎ ((j < n) ⊎ (n < j)) → j < n
          below_of (inl same) = absurd (other same)
          below_of (inr (inl fewer)) = fewer
          below_of (inr (inr more)) = absurd (omega (arith, less, more))

  search_below : (n : ℕ) → n ≤ length xs → First xs P ⊎ AllBelow xs P n
  search_below zero inside = inr (λ j a less here. absurd (omega (arith, less)))
  search_below (suc n) inside = step (search_below n (omega (arith, inside)))
    where
      last : (a : Asked) × (slice_get xs n ≡ Some a)
      last = item_at xs n (omega (arith, inside))

      step : First xs P ⊎ AllBelow xs P n → First xs P ⊎ AllBelow xs P (suc n)
      step (inl first) = inl first
      step (inr below) = by (decided n last.0 last.1)
        where
          by : IsDecided (P last.0) → First xs P ⊎ AllBelow xs P (suc n)
          by (inl is) = inr (one_more n below last.0 last.1 is)
          by (inr fails) = inl (record { place = n; item = last.0; there = last.1; before = below; fails = fails })

  pub first_or_all : First xs P ⊎ ((j : ℕ) (a : Asked) → slice_get xs j ≡ Some a → P a)
  first_or_all = by (search_below (length xs) (omega arith))
    where
      by : First xs P ⊎ AllBelow xs P (length xs) → First xs P ⊎ ((j : ℕ) (a : Asked) → slice_get xs j ≡ Some a → P a)
      by (inl first) = inl first
      by (inr all) = inr (λ j a here. all j a (slice_get_within xs j a here) here)

pub one_or_all : OneOrAll
one_or_all required p r s decided = by (first_or_all (asked required p r s) (λ (a : Asked). Holds s.top s.memory a.1) decided)
  where
    by : First (asked required p r s) (λ (a : Asked). Holds s.top s.memory a.1) ⊎ ((j : ℕ) (a : Asked) → slice_get (asked required p r s) j ≡ Some a → Holds s.top s.memory a.1) →
        ((o : Obl Pred) × FirstViolated required p r s o) ⊎ AllHold required p r s
    by (inl first) = inl (first.item.0, record { place = first.place; pred = first.item.1; checked = first.there; before = first.before; fails = first.fails })
    by (inr all) = inr all
