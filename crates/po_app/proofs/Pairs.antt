-- Lists of two items.
use Rattle.std.proofs.Common.{◌≡◌, ℕ, ◌<◌, ◌≤◌, List, [], ◌∷◌, length, get_or, map, arith, ap, sym, ◌∙◌}

pub pair_of : {X : Type 0} (xs : List X) (x y : X) → 2 ≤ length xs → length xs < 3 → x ≡ get_or xs 0 x → y ≡ get_or xs 1 y → xs ≡ x ∷ (y ∷ [])
pair_of [] x y low high p q = absurd (omega arith)
pair_of (a ∷ []) x y low high p q = absurd (omega arith)
pair_of (a ∷ (b ∷ [])) x y low high p q = cc
pair_of (a ∷ (b ∷ (c ∷ cs))) x y low high p q = absurd (omega arith)

-- what f makes of two items
pub words_are : {S : Type 0} (f : S → List ℕ) (items xs : List S) (x y : S) (a b u : List ℕ) →
    xs ≡ items → xs ≡ x ∷ (y ∷ []) → a ≡ f x → b ≡ f y → a ≡ u → map f items ≡ u ∷ (b ∷ [])
words_are f items xs x y a b u same two first second is =
    let mapped : map f items ≡ f x ∷ (f y ∷ []) = ap (map f) (sym same ∙ two) in
    mapped ∙ cc
