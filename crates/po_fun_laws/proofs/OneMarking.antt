-- The files and lines of a definition's tokens tell its marks and its names.
use Rattle.std.proofs.Common.{◌≡◌, ◌∙◌, ℕ, zero, suc, ◌≤◌, ◌<◌, List, [], ◌∷◌, length, map, drop, get_or, refl, sym, ap, subst, arith, inl, inr}
use Rattle.std.proofs.Math.Nat.{le-suc_iff}
use Rattle.std.proofs.lemmas.List.{ext_get_or}
use Rattle.std.proofs.lemmas.List.Elements.{Contains-get_or}
use Rattle.std.specs.Prelude.{Contains}
use Rattle.po_tree.specs.declared.function.FunTree.{FunTree}
use Rattle.po_tree.specs.Statements.{AreNumbered, numbered, old, new, AllDiffer, AreMarks, places_of}

-- names that all differ have one place each
one_place : (names : List (List ℕ)) (i j : ℕ) → AllDiffer names → i < length names → j < length names → get_or names i [] ≡ get_or names j [] → i ≡ j
one_place [] i j differ h g q = absurd (omega arith)
one_place (x ∷ xs) zero zero differ h g q = refl
one_place (x ∷ xs) zero (suc j) differ h g q = absurd (differ.0 (subst (Contains xs) (sym q) (Contains-get_or xs j [] (omega arith))))
one_place (x ∷ xs) (suc i) zero differ h g q = absurd (differ.0 (subst (Contains xs) q (Contains-get_or xs i [] (omega arith))))
one_place (x ∷ xs) (suc i) (suc j) differ h g q = ap suc (one_place xs i j differ.1 (omega arith) (omega arith) q)

numbered_up : {n m : ℕ} {marks : List (ℕ × ℕ)} → AreNumbered n marks m → n ≤ m
numbered_up (numbered n) = omega arith
numbered_up (old n m place line rest h w) = numbered_up w
numbered_up (new n m line rest w) = omega (arith, numbered_up w)

-- two lists have the same names before a place
abbrev AgreeBelow : ℕ → List (List ℕ) → List (List ℕ) → Type 0
AgreeBelow n names others = (i : ℕ) → i < n → get_or names i [] ≡ get_or others i []

agree_further : (n : ℕ) (names others : List (List ℕ)) → AgreeBelow n names others → get_or names n [] ≡ get_or others n [] → AgreeBelow (suc n) names others
agree_further n names others agree here i h = elim (le-suc_iff.0 h) [
  | inl below ↦ agree i below
  | inr at ↦ let same : i ≡ n = omega (arith, at) in subst (λ j. get_or names j [] ≡ get_or others j []) (sym same) here
]

-- the file's name and the line of a mark
abbrev placed : List (List ℕ) → ℕ × ℕ → List ℕ × ℕ
placed names mark = (get_or names mark.0 [], mark.1)

first_placed : (names others : List (List ℕ)) (mark other : ℕ × ℕ) (rest left : List (ℕ × ℕ)) → map (placed names) (mark ∷ rest) ≡ map (placed others) (other ∷ left) →
    (get_or names mark.0 [] ≡ get_or others other.0 []) × (mark.1 ≡ other.1) × (map (placed names) rest ≡ map (placed others) left)
first_placed names others mark other rest left q =
    let heads : placed names mark ≡ placed others other = cc in (ap (λ v. v.0) heads, ap (λ v. v.1) heads, ap (drop 1) q)

mark_same : {a b c d : ℕ} {rest left : List (ℕ × ℕ)} → a ≡ b → c ≡ d → rest ≡ left → (a, c) ∷ rest ≡ (b, d) ∷ left
mark_same {b = b} {c = c} {d = d} {rest = rest} p q r = ap (λ v. (v, c) ∷ rest) p ∙ ap (λ v. (b, v) ∷ rest) q ∙ ap (λ v. (b, d) ∷ v) r

one_marking : (names others : List (List ℕ)) {n m k : ℕ} {marks left : List (ℕ × ℕ)} → AllDiffer names → AllDiffer others → AreNumbered n marks m → AreNumbered n left k → m ≡ length names → k ≡ length others →
    AgreeBelow n names others → map (placed names) marks ≡ map (placed others) left → (marks ≡ left) × (names ≡ others)
one_marking names others d e (numbered n) (numbered n') full high agree q = (refl, ext_get_or [] names others (omega arith) (λ i h. agree i (omega arith)))
one_marking names others d e (numbered n) (old n' k place line rest h w) full high agree q = absurd (omega (arith, ap length q))
one_marking names others d e (numbered n) (new n' k line rest w) full high agree q = absurd (omega (arith, ap length q))
one_marking names others d e (old n m place line rest h w) (numbered n') full high agree q = absurd (omega (arith, ap length q))
one_marking names others d e (new n m line rest w) (numbered n') full high agree q = absurd (omega (arith, ap length q))
one_marking names others d e (old n m place line rest h w) (old n' k place' line' rest' h' w') full high agree q =
    let s = first_placed names others (place, line) (place', line') rest rest' q in
    let same = one_place others place place' e (omega (arith, h, high, numbered_up w')) (omega (arith, h', high, numbered_up w')) (sym (agree place h) ∙ s.0) in
    let r = one_marking names others d e w w' full high agree s.2 in
    (mark_same same s.1 r.0, r.1)
one_marking names others d e (old n m place line rest h w) (new n' k line' rest' w') full high agree q =
    let s = first_placed names others (place, line) (n, line') rest rest' q in
    absurd (omega (arith, h, one_place others place n e (omega (arith, h, high, numbered_up w')) (omega (arith, high, numbered_up w')) (sym (agree place h) ∙ s.0)))
one_marking names others d e (new n m line rest w) (old n' k place' line' rest' h' w') full high agree q =
    let s = first_placed names others (n, line) (place', line') rest rest' q in
    absurd (omega (arith, h', one_place names n place' d (omega (arith, full, numbered_up w)) (omega (arith, h', full, numbered_up w)) (s.0 ∙ sym (agree place' h'))))
one_marking names others d e (new n m line rest w) (new n' k line' rest' w') full high agree q =
    let s = first_placed names others (n, line) (n, line') rest rest' q in
    let r = one_marking names others d e w w' full high (agree_further n names others agree s.0) s.2 in
    (mark_same refl s.1 r.0, r.1)

pub marks_are_one : (g h : FunTree) → AreMarks g → AreMarks h → places_of g ≡ places_of h → (g.marks ≡ h.marks) × (g.names ≡ h.names)
marks_are_one g h w v q = one_marking g.names h.names w.differ v.differ w.order v.order refl refl (λ i low. absurd (omega arith)) q
