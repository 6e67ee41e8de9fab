-- Items of lists, by recursion and by places.
use Rattle.std.proofs.Common.{◌≡◌, ℕ, zero, suc, ◌+◌, List, [], ◌∷◌, ◌++◌, refl, sym, subst, arith, ◌⊎◌, inl, inr, ◌<◌, length}
use Rattle.std.specs.Prelude.{Some, All, slice_get}
use Rattle.std.specs.List.{AllZip, flat_map}
use Rattle.std.proofs.lemmas.List.Elements.{All-nil, All-cons, All-head, All-tail}
use Rattle.po_lists.proofs.Members.{Has}
use Rattle.po_app.specs.Obligations.{each_from}

pub has_left : {X : Type 0} (xs ys : List X) (x : X) → Has xs x → Has (xs ++ ys) x
has_left [] ys x h = absurd h
has_left (z ∷ zs) ys x (inl h) = inl h
has_left (z ∷ zs) ys x (inr h) = inr (has_left zs ys x h)

pub has_right : {X : Type 0} (xs ys : List X) (x : X) → Has ys x → Has (xs ++ ys) x
has_right [] ys x h = h
has_right (z ∷ zs) ys x h = inr (has_right zs ys x h)

pub has_either : {X : Type 0} (xs ys : List X) (x : X) → Has (xs ++ ys) x → Has xs x ⊎ Has ys x
has_either [] ys x h = inr h
has_either (z ∷ zs) ys x (inl h) = inl (inl h)
has_either (z ∷ zs) ys x (inr h) = elim (has_either zs ys x h) [ inl a ↦ inl (inr a) | inr b ↦ inr b ]

has_each_from : {X Y : Type 0} (f : ℕ → X → List Y) (n : ℕ) (xs : List X) (i : ℕ) (x : X) (y : Y) → slice_get xs i ≡ Some x → Has (f (n + i) x) y → Has (each_from f n xs) y
has_each_from f n [] i x y e h = absurd (cc)
has_each_from f n (z ∷ zs) zero x y e h =
    let same : z ≡ x = cc in
    let none : n + 0 ≡ n = omega arith in
    has_left (f n z) _ y (subst (λ w. Has (f n w) y) (sym same) (subst (λ k. Has (f k x) y) none h))
has_each_from f n (z ∷ zs) (suc i) x y e h =
    let next : n + suc i ≡ (n + 1) + i = omega arith in
    has_right (f n z) _ y (has_each_from f (n + 1) zs i x y e (subst (λ k. Has (f k x) y) next h))

-- what is made of an item is among what is made of all
pub has_each : {X Y : Type 0} (f : ℕ → X → List Y) (xs : List X) (i : ℕ) (x : X) (y : Y) → slice_get xs i ≡ Some x → Has (f i x) y → Has (each_from f 0 xs) y
has_each f xs i x y e h =
    let none : i ≡ 0 + i = omega arith in
    has_each_from f 0 xs i x y e (subst (λ k. Has (f k x) y) none h)

-- what is among what is made of all is made of an item
pub from_flat_map : {X Y : Type 0} (f : X → List Y) (xs : List X) (y : Y) → Has (flat_map f xs) y → (x : X) × Has xs x × Has (f x) y
from_flat_map f [] y h = absurd h
from_flat_map f (x ∷ xs) y h =
    elim (has_either (f x) (flat_map f xs) y h) [
      | inl a ↦ (x, inl refl, a)
      | inr b ↦ let r = from_flat_map f xs y b in (r.0, inr r.1, r.2)
    ]

pub into_flat_map : {X Y : Type 0} (f : X → List Y) (xs : List X) (x : X) (y : Y) → Has xs x → Has (f x) y → Has (flat_map f xs) y
into_flat_map f [] x y h k = absurd h
into_flat_map f (z ∷ zs) x y (inl q) k = has_left (f z) (flat_map f zs) y (subst (λ w. Has (f w) y) (sym q) k)
into_flat_map f (z ∷ zs) x y (inr h) k = has_right (f z) (flat_map f zs) y (into_flat_map f zs x y h k)

pub all_has : {X : Type 0} (P : X → Type 0) (xs : List X) (x : X) → All P xs → Has xs x → P x
all_has P [] x all h = absurd h
all_has P (y ∷ ys) x all (inl h) = subst P h (All-head P y ys all)
all_has P (y ∷ ys) x all (inr h) = all_has P ys x (All-tail P y ys all) h

-- the item at a place of the first list, of which the second list has a partner
pub first_at : {A B : Type 0} (R : A → B → Type 0) (xs : List A) (ys : List B) (i : ℕ) (y : B) → AllZip R xs ys → slice_get ys i ≡ Some y → (x : A) × (slice_get xs i ≡ Some x) × R x y
first_at R [] [] i y z e = absurd (cc)
first_at R [] (b ∷ ys) i y z e = absurd z
first_at R (a ∷ xs) [] i y z e = absurd z
first_at R (a ∷ xs) (b ∷ ys) zero y z e = let same : b ≡ y = cc in (a, refl, subst (λ w. R a w) same z.0)
first_at R (a ∷ xs) (b ∷ ys) (suc i) y z e = first_at R xs ys i y z.1 e

-- the partner of the item at a place of the first list
pub second_at : {A B : Type 0} (R : A → B → Type 0) (xs : List A) (ys : List B) (i : ℕ) (x : A) → AllZip R xs ys → slice_get xs i ≡ Some x → (y : B) × (slice_get ys i ≡ Some y) × R x y
second_at R [] [] i x z e = absurd (cc)
second_at R [] (b ∷ ys) i x z e = absurd z
second_at R (a ∷ xs) [] i x z e = absurd z
second_at R (a ∷ xs) (b ∷ ys) zero x z e = let same : a ≡ x = cc in (b, refl, subst (λ w. R w b) same z.0)
second_at R (a ∷ xs) (b ∷ ys) (suc i) x z e = second_at R xs ys i x z.1 e

-- each place of the list has an item
pub item_at : {X : Type 0} (xs : List X) (i : ℕ) → i < length xs → (x : X) × (slice_get xs i ≡ Some x)
item_at [] i h = absurd (omega arith)
item_at (x ∷ xs) zero h = (x, refl)
item_at (x ∷ xs) (suc i) h = item_at xs i (omega arith)

pub all_left : {X : Type 0} (P : X → Type 0) (xs ys : List X) → All P (xs ++ ys) → All P xs
all_left P [] ys all = All-nil P
all_left P (x ∷ xs) ys all = All-cons P x xs (All-head P x (xs ++ ys) all) (all_left P xs ys (All-tail P x (xs ++ ys) all))
