-- Facts on the places of lists.
use Rattle.std.specs.Prelude.{ℕ, zero, suc, ◌≡◌, ◌≢◌, ◌<◌, ◌⊎◌, List, [], ◌∷◌, Option, Some, length, slice_get}
use Rattle.std.proofs.Common.{arith, inl, inr}
use Rattle.std.proofs.lemmas.Bool.{cases_order}
use Rattle.po_meaning.specs.Operands.{block_held}

pub same_or_not : (i j : ℕ) → (i ≡ j) ⊎ (i ≢ j)
same_or_not i j = by (cases_order i j)
  where
    by : (i ≡ j) ⊎ ((i < j) ⊎ (j < i)) → (i ≡ j) ⊎ (i ≢ j)
    by (inl same) = inl same
    by (inr (inl less)) = inr (λ same. absurd (omega arith))
    by (inr (inr more)) = inr (λ same. absurd (omega arith))

-- a slot whose block is told is there
pub held_within : (xs : List (Option ℕ)) (i b : ℕ) → block_held (slice_get xs i) ≡ Some b → i < length xs
held_within [] i b is = absurd (cc)
held_within (x ∷ xs) zero b is = omega arith
held_within (x ∷ xs) (suc i) b is = let inside = held_within xs i b is in omega (arith, inside)
