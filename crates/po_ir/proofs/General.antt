-- Facts on lists that speak of no graph.
use Rattle.std.proofs.Common.{◌≡◌, ℕ, zero, suc, ◌+◌, ◌<◌, List, [], ◌∷◌, ◌++◌, length, get_or, take, refl, inl, inr, ap, sym, ◌∙◌, append_assoc, arith, subst, Bool, true, false, cond}
use Rattle.std.specs.Prelude.{Some, slice_get, Contains}
use Rattle.std.proofs.lemmas.List.Elements.{Contains-append_left, Contains-append_right, Contains-append_cases, Contains-push_cases}
use Rattle.std.proofs.lemmas.List.{append-nil}
use Rattle.po_ir.specs.General.{each_from}

each_from-take-from : {X Y : Type 0} (f : ℕ → X → List Y) (n : ℕ) (xs : List X) (i : ℕ) (d : X) → i < length xs →
    each_from f n (take (suc i) xs) ≡ each_from f n (take i xs) ++ f (n + i) (get_or xs i d)
each_from-take-from f n [] i d h = absurd (omega arith)
each_from-take-from f n (x ∷ xs) zero d h = let e : n + 0 ≡ n = omega arith in rw (e, append-nil (f n x)) refl
each_from-take-from f n (x ∷ xs) (suc i) d h =
    let h' : i < length xs = omega arith in
    let e : (n + 1) + i ≡ n + suc i = omega arith in
    let step = each_from-take-from f (n + 1) xs i d h' in
    ap (λ z. f n x ++ z) (step ∙ rw e refl) ∙ sym (append_assoc (f n x) _ _)

pub each_from-take : {X Y : Type 0} (f : ℕ → X → List Y) (xs : List X) (i : ℕ) (d : X) → i < length xs →
    each_from f 0 (take (i + 1) xs) ≡ each_from f 0 (take i xs) ++ f i (get_or xs i d)
each_from-take f xs i d h =
    let e : i + 1 ≡ suc i = omega arith in
    let z : 0 + i ≡ i = omega arith in
    rw e (subst (λ k. each_from f 0 (take (suc i) xs) ≡ each_from f 0 (take i xs) ++ f k (get_or xs i d)) z (each_from-take-from f 0 xs i d h))

-- the same with the item that was read
pub each_from-more : {X Y : Type 0} (f : ℕ → X → List Y) (xs : List X) (i : ℕ) (x : X) → i < length xs → x ≡ get_or xs i x →
    each_from f 0 (take (i + 1) xs) ≡ each_from f 0 (take i xs) ++ f i x
each_from-more f xs i x h is = each_from-take f xs i x h ∙ ap (λ y. each_from f 0 (take i xs) ++ f i y) (sym is)

-- what is made of one more item is appended to what stood before
pub each_from-onto : {X Y : Type 0} (f : ℕ → X → List Y) (xs : List X) (i j : ℕ) (x : X) (first before after : List Y) → i < length xs → x ≡ get_or xs i x → j ≡ i →
    before ≡ first ++ each_from f 0 (take i xs) → after ≡ before ++ f j x → after ≡ first ++ each_from f 0 (take (i + 1) xs)
each_from-onto f xs i j x first before after below is same so_far appended =
    appended ∙ ap (λ z. z ++ f j x) so_far ∙ append_assoc first _ _ ∙ ap (λ k. first ++ (each_from f 0 (take i xs) ++ f k x)) same ∙ ap (λ z. first ++ z) (sym (each_from-more f xs i x below is))

-- the same with an item as it is read with a value for the places beyond the list
pub each_from-onto-at : {X Y : Type 0} (f : ℕ → X → List Y) (xs : List X) (i j : ℕ) (d : X) (first before after : List Y) → i < length xs → j ≡ i →
    before ≡ first ++ each_from f 0 (take i xs) → after ≡ before ++ f j (get_or xs i d) → after ≡ first ++ each_from f 0 (take (i + 1) xs)
each_from-onto-at f xs i j d first before after below same so_far appended =
    appended ∙ ap (λ z. z ++ f j (get_or xs i d)) so_far ∙ append_assoc first _ _ ∙ ap (λ k. first ++ (each_from f 0 (take i xs) ++ f k (get_or xs i d))) same ∙ ap (λ z. first ++ z) (sym (each_from-take f xs i d below))

-- what is made of an item is among what is made of all
pub into_each : {X Y : Type 0} (f : ℕ → X → List Y) (n : ℕ) (xs : List X) (i : ℕ) (x : X) (y : Y) → slice_get xs i ≡ Some x → Contains (f (n + i) x) y → Contains (each_from f n xs) y
into_each f n [] i x y e h = absurd (cc)
into_each f n (z ∷ zs) zero x y e h =
    let same : z ≡ x = cc in
    let none : n + 0 ≡ n = omega arith in
    Contains-append_left (f n z) _ y (subst (λ w. Contains (f n w) y) (sym same) (subst (λ k. Contains (f k x) y) none h))
into_each f n (z ∷ zs) (suc i) x y e h =
    let next : n + suc i ≡ (n + 1) + i = omega arith in
    Contains-append_right (f n z) _ y (into_each f (n + 1) zs i x y e (subst (λ k. Contains (f k x) y) next h))

-- what is among what is made of all is made of an item
pub from_each : {X Y : Type 0} (f : ℕ → X → List Y) (n : ℕ) (xs : List X) (y : Y) → Contains (each_from f n xs) y → (i : ℕ) × (x : X) × (slice_get xs i ≡ Some x) × Contains (f (n + i) x) y
from_each f n [] y c = absurd (let h = c.1 in omega arith)
from_each f n (z ∷ zs) y c =
    elim (Contains-append_cases (f n z) (each_from f (n + 1) zs) y c) [
      | inl a ↦ let none : n ≡ n + 0 = omega arith in (0, z, refl, subst (λ k. Contains (f k z) y) none a)
      | inr b ↦
          let r = from_each f (n + 1) zs y b in
          let next : (n + 1) + r.0 ≡ n + suc r.0 = omega arith in
          (suc r.0, r.1, r.2, subst (λ k. Contains (f k r.1) y) next r.3)
    ]

-- an item that stands alone, where a test holds
pub alone : {X : Type 0} (b : Bool) (x y : X) → Contains (cond b (x ∷ []) []) y → (b ≡ true) × (x ≡ y)
alone true x y c = elim (Contains-push_cases [] x y c) [ inl h ↦ absurd (let l = h.1 in omega arith) | inr e ↦ (refl, e) ]
alone false x y c = absurd (let h = c.1 in omega arith)
