-- Walks over two lists that have come to the end of one.
use Rattle.std.specs.Prelude.{◌≡◌, ℕ, ◌≤◌, ◌-◌, Bool, true, nat_eq, List, [], ◌∷◌, ◌++◌, take, drop, length, ◌⊎◌}
use Rattle.std.proofs.Common.{refl, sym, ap, ◌∙◌, arith, inl, inr, append_assoc, append-nil, eq-eqb}
use Rattle.std.proofs.lemmas.List.{take_all, drop_all, length-drop}
use Rattle.std.proofs.lemmas.Bool.Decides.{nat_tests}
use Rattle.std.specs.declared.cmp.Ordering.{Ordering}
use Rattle.po_bases.specs.Maps.{merged, merged_at_end}
use Rattle.po_bases.specs.Filled.{common, has_all}

rest : {A : Type 0} (xs : List A) (i : ℕ) → take (length xs - i) (drop i xs) ≡ drop i xs
rest xs i = let e : length (drop i xs) ≡ length xs - i = length-drop i xs in take_all (length xs - i) (drop i xs) (omega arith)

at_end : {A : Type 0} (xs ys : List A) (i j : ℕ) → (length xs ≤ i) ⊎ (length ys ≤ j) → (drop i xs ≡ []) ⊎ (drop j ys ≡ [])
at_end xs ys i j (inl h) = inl (drop_all i xs h)
at_end xs ys i j (inr h) = inr (drop_all j ys h)

pub merge_ends : {E : Type 0} (order : E → E → Ordering) (join : E → E → E) (list xs ys : List E) (i j : ℕ) → (length xs ≤ i) ⊎ (length ys ≤ j) →
    (list ++ take (length xs - i) (drop i xs)) ++ take (length ys - j) (drop j ys) ≡ list ++ merged order join (drop i xs) (drop j ys)
merge_ends order join list xs ys i j end =
    ap (λ l. (list ++ l) ++ take (length ys - j) (drop j ys)) (rest xs i)
    ∙ ap (λ l. (list ++ drop i xs) ++ l) (rest ys j)
    ∙ append_assoc list (drop i xs) (drop j ys)
    ∙ ap (λ l. list ++ l) (sym (merged_at_end order join (drop i xs) (drop j ys) (at_end xs ys i j end)))

common_nothing : (xs : List ℕ) → common xs [] ≡ []
common_nothing [] = refl
common_nothing (x ∷ xs) = refl

none_common : (xs ys : List ℕ) → (xs ≡ []) ⊎ (ys ≡ []) → common xs ys ≡ []
none_common xs ys (inl h) = rw h refl
none_common xs ys (inr h) = rw h (common_nothing xs)

pub common_ends : (list xs ys : List ℕ) (i j : ℕ) → (length xs ≤ i) ⊎ (length ys ≤ j) → list ≡ list ++ common (drop i xs) (drop j ys)
common_ends list xs ys i j end = sym (ap (λ l. list ++ l) (none_common (drop i xs) (drop j ys) (at_end xs ys i j end)) ∙ append-nil list)

all_of_nothing : (xs : List ℕ) → has_all xs [] ≡ true
all_of_nothing [] = refl
all_of_nothing (x ∷ xs) = refl

nothing_has : (ys : List ℕ) → has_all [] ys ≡ nat_eq (length ys) 0
nothing_has [] = refl
nothing_has (y ∷ ys) = grind (arith, nat_tests)

left_over : (j n m : ℕ) → m ≡ n - j → j ≤ n → nat_eq j n ≡ nat_eq m 0
left_over j n m e h = grind (arith, nat_tests)

pub has_all_ends : (xs ys : List ℕ) (i j : ℕ) → j ≤ length ys → (length xs ≤ i) ⊎ (length ys ≤ j) → nat_eq j (length ys) ≡ has_all (drop i xs) (drop j ys)
has_all_ends xs ys i j in_ys (inl h) =
    left_over j (length ys) (length (drop j ys)) (length-drop j ys) in_ys ∙ sym (nothing_has (drop j ys)) ∙ ap (λ l. has_all l (drop j ys)) (sym (drop_all i xs h))
has_all_ends xs ys i j in_ys (inr h) =
    let e : j ≡ length ys = omega arith in
    eq-eqb j (length ys) e ∙ sym (all_of_nothing (drop i xs)) ∙ ap (λ l. has_all (drop i xs) l) (sym (drop_all j ys h))
