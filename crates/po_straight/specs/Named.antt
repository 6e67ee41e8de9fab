-- Names that stand in a list, with the way from a name to its place.
use Rattle.std.specs.Prelude.{ℕ, ◌≡◌, List, [], ◌∷◌, Option, Some, MatchOption, Contains, slice_get}
use Rattle.po_straight.specs.Distinct.{AllDiffer}
use Rattle.po_straight.specs.Scopes.{Signature}

-- `place` gives each name its place in the list, and no place to what isn't there; no name stands twice
pub record ArePlaced (names : List (List ℕ)) (place : List ℕ → Option ℕ) : Type 0 where
  pub differ : AllDiffer names
  pub placed : (name : List ℕ) → MatchOption (place name) (Contains names name → ⊥) (λ n. slice_get names n ≡ Some name)

-- names, each with its number of parameters
abbrev pub signatures : List (List ℕ) → List ℕ → List Signature
signatures (name ∷ names) (count ∷ counts) = record { name = name; count = count } ∷ signatures names counts
signatures _ _ = []
