-- Lists by place, and two lists side by side.
use Rattle.std.proofs.Common.{◌≡◌, ℕ, zero, suc, ◌+◌, ◌<◌, List, [], ◌∷◌, refl, ap, ◌∙◌, arith, length, drop}
use Rattle.std.specs.Prelude.{ℤ, Some, map, replicate, slice_get}
use Rattle.std.specs.List.{range_with_len}
use Rattle.std.proofs.lemmas.Option.{same_Some}
use Rattle.po_memory.specs.declared.value.Value.TheVariants.{Number}

-- what a value that is a number tells
pub one_number : (u v : ℤ) → Some (Number u) ≡ Some (Number v) → u ≡ v
one_number u v e = cc

-- a list whose items are those of a function of the places
pub from_each : {X : Type 0} (f : ℕ → X) (xs : List X) (a : ℕ) → ((j : ℕ) → j < length xs → slice_get xs j ≡ Some (f (a + j))) → xs ≡ map f (range_with_len a (length xs))
from_each f [] a each = refl
from_each f (x ∷ xs) a each =
    let here : f (a + 0) ≡ f a = ap f (omega arith) in
    let first : x ≡ f a = same_Some x (f (a + 0)) (each 0 (omega arith)) ∙ here in
    let rest : xs ≡ map f (range_with_len (a + 1) (length xs)) = from_each f xs (a + 1) (λ j less. let next : a + suc j ≡ a + 1 + j = omega arith in each (suc j) (omega arith) ∙ ap (λ n. Some (f n)) next) in
    cc

pub each_of : {X : Type 0} (f : ℕ → X) (a n j : ℕ) → j < n → slice_get (map f (range_with_len a n)) j ≡ Some (f (a + j))
each_of f a zero j less = absurd (omega arith)
each_of f a (suc n) zero less = let here : a ≡ a + 0 = omega arith in ap (λ k. Some (f k)) here
each_of f a (suc n) (suc j) less = let next : a + 1 + j ≡ a + suc j = omega arith in each_of f (a + 1) n j (omega arith) ∙ ap (λ k. Some (f k)) next

pub replicate_each : {X : Type 0} (x : X) (n a : ℕ) → map (λ (k : ℕ). x) (range_with_len a n) ≡ replicate n x
replicate_each x zero a = refl
replicate_each x (suc n) a = ap (λ t. x ∷ t) (replicate_each x n (a + 1))

-- what stands from a place on begins with the item there
pub drop_at : {X : Type 0} (xs : List X) (i : ℕ) (x : X) → slice_get xs i ≡ Some x → drop i xs ≡ x ∷ drop (suc i) xs
drop_at [] i x e = absurd (cc)
drop_at (y ∷ xs) zero x e = ap (λ z. z ∷ xs) (same_Some y x e)
drop_at (y ∷ xs) (suc i) x e = drop_at xs i x e

pub map_map : {X Y Z : Type 0} (f : Y → Z) (g : X → Y) (xs : List X) → map f (map g xs) ≡ map (λ x. f (g x)) xs
map_map f g [] = refl
map_map f g (x ∷ xs) = ap (λ t. f (g x) ∷ t) (map_map f g xs)
