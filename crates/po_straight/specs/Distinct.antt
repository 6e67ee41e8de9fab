-- Lists of names in which no name stands twice.
use Rattle.std.specs.Prelude.{ℕ, List, [], ◌∷◌, Contains}

-- no text stands twice
abbrev pub AllDiffer : List (List ℕ) → Type 0
AllDiffer [] = Unit {0}
AllDiffer (x ∷ xs) = (Contains xs x → ⊥) × AllDiffer xs
