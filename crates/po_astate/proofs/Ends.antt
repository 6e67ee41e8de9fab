-- Walks over two lists that have come to an end.
use Rattle.std.specs.Prelude.{◌≡◌, ℕ, suc, ◌≤◌, ◌-◌, Bool, true, false, nat_eq, ◌&&◌, List, [], ◌∷◌, drop, length, ◌⊎◌}
use Rattle.std.proofs.Common.{refl, sym, ap, ◌∙◌, arith, inl, inr, eq-eqb}
use Rattle.std.proofs.lemmas.List.{drop_all, length-drop}
use Rattle.std.proofs.lemmas.Bool.Decides.{nat_tests}
use Rattle.std.specs.declared.cmp.Ordering.{Ordering}
use Rattle.po_bases.specs.Maps.{covered}
use Rattle.po_astate.specs.Each.{each_within}

module _ {E : Type 0} (order : E → E → Ordering) (below : E → E → Bool) where
  covered_by_none : (xs : List E) → covered order below xs [] ≡ nat_eq (length xs) 0
  covered_by_none [] = refl
  covered_by_none (x ∷ xs) = grind (arith, nat_tests)

  none_covered : (ys : List E) → covered order below [] ys ≡ true
  none_covered ys = refl

  left_over : (i n m : ℕ) → m ≡ n - i → i ≤ n → nat_eq i n ≡ nat_eq m 0
  left_over i n m e h = grind (arith, nat_tests)

  pub covered_ends : (xs ys : List E) (i j : ℕ) → i ≤ length xs → (length xs ≤ i) ⊎ (length ys ≤ j) → nat_eq i (length xs) ≡ covered order below (drop i xs) (drop j ys)
  covered_ends xs ys i j in_xs (inl h) =
      let e : i ≡ length xs = omega arith in
      eq-eqb i (length xs) e ∙ ap (λ l. covered order below l (drop j ys)) (sym (drop_all i xs h))
  covered_ends xs ys i j in_xs (inr h) =
      left_over i (length xs) (length (drop i xs)) (length-drop i xs) in_xs ∙ sym (covered_by_none (drop i xs)) ∙ ap (λ l. covered order below (drop i xs) l) (sym (drop_all j ys h))

-- lists of different lengths aren't below one another
pub lengths_apart : {S : Type 0} (w : S → S → Bool) (xs ys : List S) → (length xs ≡ length ys → ⊥) → false ≡ each_within w xs ys
lengths_apart w [] [] apart = absurd (apart refl)
lengths_apart w [] (y ∷ ys) apart = refl
lengths_apart w (x ∷ xs) [] apart = refl
lengths_apart w (x ∷ xs) (y ∷ ys) apart = none (w x y) (each_within w xs ys) (lengths_apart w xs ys (λ e. apart (ap suc e))) where
  none : (a b : Bool) → false ≡ b → false ≡ (a && b)
  none true b h = h
  none false b h = refl
