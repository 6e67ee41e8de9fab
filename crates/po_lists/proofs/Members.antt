-- What is among the items of a list.
use Rattle.std.proofs.Common.{◌≡◌, ◌⊎◌, ℕ, zero, suc, ◌<◌, List, [], ◌∷◌, length, map, refl, ap, subst, inl, inr, arith}
use Rattle.std.specs.Prelude.{Some, Contains, slice_get, slice_index_or}
use Rattle.std.specs.List.{flat_map}
use Rattle.std.proofs.lemmas.List.Elements.{Contains-append_left, Contains-append_right}

-- membership by recursion on the list, which goes both ways
abbrev pub Has : {X : Type 0} → List X → X → Type 0
Has [] x = ⊥
Has (y ∷ ys) x = (y ≡ x) ⊎ Has ys x

pub contains : {X : Type 0} (xs : List X) (x : X) → Has xs x → Contains xs x
contains [] x h = absurd h
contains (y ∷ ys) x (inl q) = (0, omega arith, q)
contains (y ∷ ys) x (inr h) = let r = contains ys x h in (suc r.0, let l = r.1 in omega arith, r.2)

has_at : {X : Type 0} (xs : List X) (x : X) (k : ℕ) → k < length xs → slice_index_or xs k x ≡ x → Has xs x
has_at [] x k l q = absurd (omega arith)
has_at (y ∷ ys) x zero l q = inl q
has_at (y ∷ ys) x (suc k) l q = inr (has_at ys x k (omega arith) q)

pub has : {X : Type 0} (xs : List X) (x : X) → Contains xs x → Has xs x
has xs x h = has_at xs x h.0 h.1 h.2

pub contains_none : {X : Type 0} (x : X) → Contains [] x → ⊥
contains_none x c = has [] x c

pub contains_cases : {X : Type 0} (y : X) (ys : List X) (x : X) → Contains (y ∷ ys) x → (y ≡ x) ⊎ Contains ys x
contains_cases y ys x c = elim (has (y ∷ ys) x c) [ inl e ↦ inl e | inr h ↦ inr (contains ys x h) ]

pub contains_head : {X : Type 0} (x : X) (ys : List X) → Contains (x ∷ ys) x
contains_head x ys = (0, omega arith, refl)

pub contains_second : {X : Type 0} (x y : X) (ys : List X) → Contains (x ∷ (y ∷ ys)) y
contains_second x y ys = (1, omega arith, refl)

pub contains_tail : {X : Type 0} (y : X) (ys : List X) (x : X) → Contains ys x → Contains (y ∷ ys) x
contains_tail y ys x c = Contains-append_right (y ∷ []) ys x c

-- what stands at a place
pub has_item : {X : Type 0} (xs : List X) (i : ℕ) (x : X) → slice_get xs i ≡ Some x → Has xs x
has_item [] i x h = absurd (cc)
has_item (y ∷ ys) zero x h = inl (cc)
has_item (y ∷ ys) (suc i) x h = inr (has_item ys i x h)

pub contains_item : {X : Type 0} (xs : List X) (i : ℕ) (x : X) → slice_get xs i ≡ Some x → Contains xs x
contains_item xs i x h = contains xs x (has_item xs i x h)

-- what is made of members
has_map : {X Y : Type 0} (f : X → Y) (xs : List X) (x : X) → Has xs x → Has (map f xs) (f x)
has_map f [] x h = absurd h
has_map f (y ∷ ys) x (inl q) = inl (ap f q)
has_map f (y ∷ ys) x (inr h) = inr (has_map f ys x h)

pub contains_map : {X Y : Type 0} (f : X → Y) (xs : List X) (x : X) → Contains xs x → Contains (map f xs) (f x)
contains_map f xs x h = contains (map f xs) (f x) (has_map f xs x (has xs x h))

pub has_from_map : {X Y : Type 0} (f : X → Y) (xs : List X) (y : Y) → Has (map f xs) y → (x : X) × Has xs x × (f x ≡ y)
has_from_map f [] y h = absurd h
has_from_map f (x ∷ xs) y (inl q) = (x, inl refl, q)
has_from_map f (x ∷ xs) y (inr h) = let r = has_from_map f xs y h in (r.0, inr r.1, r.2)

pub flat_map_has : {X Y : Type 0} (f : X → List Y) (xs : List X) (x : X) (y : Y) → Has xs x → Contains (f x) y → Contains (flat_map f xs) y
flat_map_has f [] x y h k = absurd h
flat_map_has {Y = Y} f (z ∷ zs) x y (inl q) k = Contains-append_left (f z) (flat_map f zs) y (rw q k)
flat_map_has f (z ∷ zs) x y (inr h) k = Contains-append_right (f z) (flat_map f zs) y (flat_map_has f zs x y h k)

pub contains_flat_map : {X Y : Type 0} (f : X → List Y) (xs : List X) (x : X) (y : Y) → Contains xs x → Contains (f x) y → Contains (flat_map f xs) y
contains_flat_map f xs x y h k = flat_map_has f xs x y (has xs x h) k
