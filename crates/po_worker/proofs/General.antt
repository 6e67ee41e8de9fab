-- Places of lists, and what is known of results.
use Rattle.std.proofs.Common.{◌≡◌, ℕ, zero, suc, List, [], ◌∷◌, ◌++◌, map, take, ap}
use Rattle.std.specs.Prelude.{Some, slice_get}
use Rattle.std.proofs.lemmas.Option.{same_Some}

-- a map of the front up to one more item
pub map_push : {X Y : Type 0} (f : X → Y) (xs : List X) (k : ℕ) (x : X) → slice_get xs k ≡ Some x → map f (take (suc k) xs) ≡ map f (take k xs) ++ f x ∷ []
map_push f [] k x q = absurd (cc)
map_push f (y ∷ xs) zero x q = ap (λ z. f z ∷ []) (same_Some y x q)
map_push f (y ∷ xs) (suc k) x q = ap (λ l. f y ∷ l) (map_push f xs k x q)
