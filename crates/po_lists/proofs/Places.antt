-- What stands at a place of a list, and of a list made of others.
use Rattle.std.proofs.Common.{◌≡◌, ◌≢◌, ◌⊎◌, ℕ, zero, suc, ◌+◌, ◌<◌, List, [], ◌∷◌, ◌++◌, length, map, take, drop, set, refl, ap, ◌∙◌, subst, inl, inr, arith}
use Rattle.std.specs.Prelude.{Some, All, slice_get, slice_set}
use Rattle.std.specs.List.{AllZip}
use Rattle.std.proofs.lemmas.Option.{get_or_from_slice_get, slice_get_within, same_Some}

-- each place below the length has an item
pub item_at : {X : Type 0} (xs : List X) (i : ℕ) → i < length xs → (x : X) × (slice_get xs i ≡ Some x)
item_at [] i h = absurd (omega arith)
item_at (x ∷ xs) zero h = (x, refl)
item_at (x ∷ xs) (suc i) h = item_at xs i (omega arith)

-- ---- what all of a list have

pub all_at : {X : Type 0} (P : X → Type 0) (xs : List X) (i : ℕ) (x : X) → All P xs → slice_get xs i ≡ Some x → P x
all_at P xs i x all here = subst P (get_or_from_slice_get xs i x x here) (all i x (slice_get_within xs i x here))

pub all_head : {X : Type 0} (P : X → Type 0) (x : X) (xs : List X) → All P (x ∷ xs) → P x
all_head P x xs all = all 0 x (omega arith)

pub all_tail : {X : Type 0} (P : X → Type 0) (x : X) (xs : List X) → All P (x ∷ xs) → All P xs
all_tail P x xs all k d h = all (suc k) d (omega arith)

-- what stands beside an item
pub zip_at : {A B : Type 0} (R : A → B → Type 0) (xs : List A) (ys : List B) (i : ℕ) (y : B) → AllZip R xs ys → slice_get ys i ≡ Some y → (x : A) × (slice_get xs i ≡ Some x) × R x y
zip_at R [] [] i y h e = absurd (cc)
zip_at R [] (z ∷ ys) i y h e = absurd h
zip_at R (x ∷ xs) [] i y h e = absurd h
zip_at R (x ∷ xs) (z ∷ ys) zero y h e = (x, refl, subst (R x) (same_Some z y e) h.0)
zip_at R (x ∷ xs) (z ∷ ys) (suc i) y h e = zip_at R xs ys i y h.1 e

-- ---- of a map

pub mapped_at : {X Y : Type 0} (f : X → Y) (xs : List X) (i : ℕ) (x : X) → slice_get xs i ≡ Some x → slice_get (map f xs) i ≡ Some (f x)
mapped_at f [] i x h = absurd (cc)
mapped_at f (y ∷ ys) zero x h = ap (λ z. Some (f z)) (same_Some y x h)
mapped_at f (y ∷ ys) (suc i) x h = mapped_at f ys i x h

pub mapped_from : {X Y : Type 0} (f : X → Y) (xs : List X) (i : ℕ) (y : Y) → slice_get (map f xs) i ≡ Some y → (x : X) × (slice_get xs i ≡ Some x) × (f x ≡ y)
mapped_from f [] i y h = absurd (cc)
mapped_from f (x ∷ xs) zero y h = (x, refl, cc)
mapped_from f (x ∷ xs) (suc i) y h = mapped_from f xs i y h

-- ---- after a write

pub set_here : {X : Type 0} (xs : List X) (i : ℕ) (x : X) → i < length xs → slice_get (slice_set xs i x) i ≡ Some x
set_here [] i x h = absurd (omega arith)
set_here (y ∷ ys) zero x h = refl
set_here (y ∷ ys) (suc i) x h = set_here ys i x (omega arith)

pub set_elsewhere : {X : Type 0} (xs : List X) (i j : ℕ) (x : X) → j ≢ i → slice_get (slice_set xs i x) j ≡ slice_get xs j
set_elsewhere [] i j x h = refl
set_elsewhere (y ∷ ys) zero zero x h = absurd (h refl)
set_elsewhere (y ∷ ys) zero (suc j) x h = refl
set_elsewhere (y ∷ ys) (suc i) zero x h = refl
set_elsewhere (y ∷ ys) (suc i) (suc j) x h = set_elsewhere ys i j x (λ same. h (ap suc same))

-- ---- after a write to one place of a list that std's `set` makes

pub get_set_same : {X : Type 0} (xs : List X) (i : ℕ) (x : X) → i < length xs → slice_get (set xs i x) i ≡ Some x
get_set_same [] i x h = absurd (omega arith)
get_set_same (y ∷ ys) zero x h = refl
get_set_same (y ∷ ys) (suc i) x h = get_set_same ys i x (omega arith)

pub get_set_other : {X : Type 0} (xs : List X) (i j : ℕ) (x : X) → j ≢ i → slice_get (set xs i x) j ≡ slice_get xs j
get_set_other [] i j x h = refl
get_set_other (y ∷ ys) zero zero x h = absurd (h refl)
get_set_other (y ∷ ys) zero (suc j) x h = refl
get_set_other (y ∷ ys) (suc i) zero x h = refl
get_set_other (y ∷ ys) (suc i) (suc j) x h = get_set_other ys i j x (λ same. h (ap suc same))

-- ---- of two lists, one behind the other

pub first_at : {X : Type 0} (xs ys : List X) (i : ℕ) → i < length xs → slice_get (xs ++ ys) i ≡ slice_get xs i
first_at [] ys i less = absurd (omega arith)
first_at (x ∷ xs) ys zero less = refl
first_at (x ∷ xs) ys (suc i) less = first_at xs ys i (omega arith)

pub second_at : {X : Type 0} (xs ys : List X) (n i : ℕ) → length xs ≡ n → slice_get (xs ++ ys) (n + i) ≡ slice_get ys i
second_at [] ys n i size = let same : n + i ≡ i = omega arith in ap (slice_get ys) same
second_at (x ∷ xs) ys zero i size = absurd (omega arith)
second_at (x ∷ xs) ys (suc n) i size = let next : suc n + i ≡ suc (n + i) = omega arith in ap (slice_get (x ∷ xs ++ ys)) next ∙ second_at xs ys n i (omega arith)

-- what stood before still stands
pub kept_at : {X : Type 0} (xs ys : List X) (i : ℕ) (x : X) → slice_get xs i ≡ Some x → slice_get (xs ++ ys) i ≡ Some x
kept_at [] ys i x h = absurd (cc)
kept_at (z ∷ xs) ys zero x h = h
kept_at (z ∷ xs) ys (suc i) x h = kept_at xs ys i x h

pub behind_at : {X : Type 0} (xs ys : List X) (x : X) → slice_get (xs ++ x ∷ ys) (length xs) ≡ Some x
behind_at [] ys x = refl
behind_at (z ∷ xs) ys x = behind_at xs ys x

-- an item of a list with one more is one of the list, or the last
pub pushed_cases : {X : Type 0} (xs : List X) (y : X) (k : ℕ) (x : X) → slice_get (xs ++ y ∷ []) k ≡ Some x → (slice_get xs k ≡ Some x) ⊎ ((k ≡ length xs) × (y ≡ x))
pushed_cases [] y zero x h = inr (refl, cc)
pushed_cases [] y (suc k) x h = absurd (cc)
pushed_cases (z ∷ zs) y zero x h = inl h
pushed_cases (z ∷ zs) y (suc k) x h = elim (pushed_cases zs y k x h) [ inl a ↦ inl a | inr b ↦ inr (ap suc b.0, b.1) ]

-- ---- of a front and a rest

pub taken_at : {X : Type 0} (n : ℕ) (xs : List X) (i : ℕ) → i < n → slice_get (take n xs) i ≡ slice_get xs i
taken_at zero xs i less = absurd (omega arith)
taken_at (suc n) [] i less = refl
taken_at (suc n) (x ∷ xs) zero less = refl
taken_at (suc n) (x ∷ xs) (suc i) less = taken_at n xs i (omega arith)

pub dropped_at : {X : Type 0} (n : ℕ) (xs : List X) (i : ℕ) → slice_get (drop n xs) i ≡ slice_get xs (n + i)
dropped_at zero xs i = let same : i ≡ 0 + i = omega arith in ap (slice_get xs) same
dropped_at (suc n) [] i = refl
dropped_at (suc n) (x ∷ xs) i = let next : suc (n + i) ≡ suc n + i = omega arith in dropped_at n xs i ∙ ap (slice_get (x ∷ xs)) next

-- the front up to one more item
pub take_push : {X : Type 0} (xs : List X) (k : ℕ) (x : X) → slice_get xs k ≡ Some x → take (suc k) xs ≡ take k xs ++ x ∷ []
take_push [] k x q = absurd (cc)
take_push (y ∷ xs) zero x q = ap (λ z. z ∷ []) (same_Some y x q)
take_push (y ∷ xs) (suc k) x q = ap (λ l. y ∷ l) (take_push xs k x q)
