-- What stands at a place of a list, and lists that differ by their last item.
use Rattle.std.proofs.Common.{◌≡◌, ◌≢◌, ◌⊎◌, ℕ, zero, suc, ◌+◌, ◌<◌, List, [], ◌∷◌, ◌++◌, length, take, get_or, set, refl, sym, ◌∙◌, ap, inl, inr, arith, length-set}
use Rattle.std.specs.Prelude.{Some, slice_get}
use Rattle.std.proofs.Math.Seq.{take-append_seam, get_or-append_seam}
use Rattle.std.proofs.lemmas.Bool.{cases_eq}
use Rattle.std.proofs.lemmas.List.{length_push}
use Rattle.std.proofs.lemmas.Option.{slice_get_within, same_Some}
use Rattle.po_lists.proofs.Places.{get_set_same, get_set_other}

-- what stands at a place of a list with one place written
pub set_cases : {X : Type 0} (xs : List X) (k j : ℕ) (x y : X) → slice_get (set xs k x) j ≡ Some y → ((j ≡ k) × (x ≡ y)) ⊎ ((j ≢ k) × (slice_get xs j ≡ Some y))
set_cases {X} xs k j x y q = elim (cases_eq j k) [
  | inl same ↦ (
      let there : j < length (set xs k x) = slice_get_within (set xs k x) j y q in
      let long : length (set xs k x) ≡ length xs = length-set xs k x in
      let at : slice_get (set xs k x) j ≡ Some x = ap (λ (z : ℕ). slice_get (set xs k x) z) same ∙ get_set_same xs k x (omega (arith, same)) in
      inl (same, same_Some x y (sym at ∙ q))
      )
  | inr ne ↦ inr (ne, sym (get_set_other xs k j x ne) ∙ q)
]

-- a place that is written back is as it was
pub set_back : {X : Type 0} (xs : List X) (k : ℕ) (x y : X) → slice_get xs k ≡ Some x → set (set xs k y) k x ≡ xs
set_back [] k x y q = refl
set_back (z ∷ zs) zero x y q = ap (λ w. w ∷ zs) (sym (same_Some z x q))
set_back (z ∷ zs) (suc k) x y q = ap (λ w. z ∷ w) (set_back zs k x y q)

-- lists with one item more are one by their fronts and their last items
module _ {X : Type 0} (xs ys : List X) (x y : X) (q : xs ++ x ∷ [] ≡ ys ++ y ∷ []) where
  same_length : length xs ≡ length ys
  same_length =
      let long = ap length q in
      let here = length_push xs x in
      let there = length_push ys y in
      omega (arith, long, here, there)

  pub same_front : xs ≡ ys
  same_front = sym (take-append_seam xs (x ∷ [])) ∙ (ap (λ (z : List X). take (length xs) z) q ∙ (ap (λ (n : ℕ). take n (ys ++ y ∷ [])) same_length ∙ take-append_seam ys (y ∷ [])))

  pub same_last : x ≡ y
  same_last = sym (get_or-append_seam xs x [] x) ∙ (ap (λ (z : List X). get_or z (length xs) x) q ∙ (ap (λ (n : ℕ). get_or (ys ++ y ∷ []) n x) same_length ∙ get_or-append_seam ys y [] x))
