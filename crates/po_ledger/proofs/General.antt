-- Places of lists and pieces of them, and what is known of an error.
use Rattle.std.proofs.Common.{◌≡◌, ℕ, zero, suc, ◌+◌, List, [], ◌∷◌, ◌++◌, map, take, get_or, set, refl, sym, ◌∙◌, ap, arith}
use Rattle.std.specs.Prelude.{Some, slice_get}
use Rattle.std.specs.List.{flat_map}
use Rattle.std.proofs.lemmas.List.{flat_map_more}
use Rattle.std.proofs.lemmas.Option.{same_Some}
use Rattle.po_lists.proofs.Places.{take_push}

-- what a map gives at a place
pub map_read : {X Y : Type 0} (f : X → Y) (xs : List X) (k : ℕ) (x : X) (d : Y) → slice_get xs k ≡ Some x → get_or (map f xs) k d ≡ f x
map_read f [] k x d q = absurd (cc)
map_read f (y ∷ xs) zero x d q = ap f (same_Some y x q)
map_read f (y ∷ xs) (suc k) x d q = map_read f xs k x d q

-- a write that a map doesn't see
pub map_set : {X Y : Type 0} (f : X → Y) (xs : List X) (k : ℕ) (x v : X) → slice_get xs k ≡ Some x → f v ≡ f x → map f (set xs k v) ≡ map f xs
map_set f [] k x v q e = refl
map_set f (y ∷ xs) zero x v q e = ap (λ z. z ∷ map f xs) (e ∙ ap f (sym (same_Some y x q)))
map_set f (y ∷ xs) (suc k) x v q e = ap (λ l. f y ∷ l) (map_set f xs k x v q e)

-- the pieces of a front, and those of one more item
pub pieces_push : {X A : Type 0} (f : X → List A) (before : List A) (xs : List X) (k : ℕ) (x : X) → slice_get xs k ≡ Some x → (before ++ flat_map f (take k xs)) ++ f x ≡ before ++ flat_map f (take (k + 1) xs)
pieces_push {X} f before xs k x q =
    let next : suc k ≡ k + 1 = omega arith in
    flat_map_more f before (take k xs) x ∙ (ap (λ (z : List X). before ++ flat_map f z) (sym (take_push xs k x q)) ∙ ap (λ (n : ℕ). before ++ flat_map f (take n xs)) next)
