-- What the definitions of tokens, kept tokens and pieces come to.
use Rattle.std.specs.Prelude.{ℕ, ◌≡◌, ◌<◌, List, [], ◌∷◌, ◌++◌}
use Rattle.po_lex.specs.declared.shape.Piece.{Piece}

-- the texts stand in the bytes, one behind the other
abbrev pub StandInOrder : List (List ℕ) → List ℕ → Type 0
StandInOrder [] bytes = Unit {0}
StandInOrder (x ∷ xs) bytes = (gap : List ℕ) × (rest : List ℕ) × (bytes ≡ gap ++ (x ++ rest)) × StandInOrder xs rest

-- the pieces go from the place `at` to the place `end` without a gap, and none is empty
abbrev pub Cover : ℕ → List Piece → ℕ → Type 0
Cover at [] end = at ≡ end
Cover at (p ∷ ps) end = (p.from ≡ at) × (p.from < p.to) × Cover p.to ps end
