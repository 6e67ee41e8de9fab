-- A list has one longest front of items with a property.
use Rattle.std.proofs.Common.{◌≡◌, List, [], ◌∷◌, ◌++◌, sym, refl}
use Rattle.std.specs.Prelude.{All}
use Rattle.std.proofs.lemmas.List.Elements.{All-head, All-tail}

module _ {X : Type 0} (P : X → Type 0) where
  -- no item with the property stands at the front
  abbrev pub Ends : List X → Type 0
  Ends xs = (y : X) (ys : List X) → xs ≡ y ∷ ys → P y → ⊥

  pub split_same : (v w xs ys : List X) → All P v → All P w → Ends xs → Ends ys → v ++ xs ≡ w ++ ys → (v ≡ w) × (xs ≡ ys)
  split_same [] [] xs ys hv hw ex ey q = (refl, q)
  split_same [] (c ∷ w) xs ys hv hw ex ey q = absurd (ex c (w ++ ys) q (All-head P c w hw))
  split_same (c ∷ v) [] xs ys hv hw ex ey q = absurd (ey c (v ++ xs) (sym q) (All-head P c v hv))
  split_same (c ∷ v) (d ∷ w) xs ys hv hw ex ey q =
      let head : c ≡ d = cc in
      let tail : v ++ xs ≡ w ++ ys = cc in
      let rest = split_same v w xs ys (All-tail P c v hv) (All-tail P d w hw) ex ey tail in
      let front : v ≡ w = rest.0 in
      (cc, rest.1)
