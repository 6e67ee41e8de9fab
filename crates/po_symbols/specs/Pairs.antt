-- The least pair of files among those that say something of a name.
use Rattle.std.specs.Prelude.{ℕ, ◌==◌, List, [], ◌∷◌, Bool, not, cond, find, bytes_eq, Option, None, option_map}
use Rattle.std.specs.Option.{option_or}
use Rattle.po_symbols.specs.Differing.{differ}

abbrev pub is_other : ℕ → ℕ → Bool
is_other file other = not (other == file)

-- the file, and the first other one
abbrev pub pair_of : ℕ → List ℕ → Option (ℕ × ℕ)
pair_of file rest = option_map (λ other. (file, other)) (find (is_other file) rest)

abbrev pub two_of : List ℕ → Option (ℕ × ℕ)
two_of [] = None
two_of (file ∷ rest) = pair_of file rest

abbrev pub differs : ℕ × List ℕ → ℕ × List ℕ → Bool
differs said other = differ said.1 other.1

-- the file, and the first other one whose type differs
abbrev pub pair_with : ℕ × List ℕ → List (ℕ × List ℕ) → Option (ℕ × ℕ)
pair_with said rest = option_map (λ (other : ℕ × List ℕ). (said.0, other.0)) (find (differs said) rest)

-- the pair of the first file whose type is spelled otherwise
abbrev pub pair_beyond : List ℕ → List (ℕ × List ℕ) → Option (ℕ × ℕ)
pair_beyond type [] = None
pair_beyond type (next ∷ rest) = cond (bytes_eq next.1 type) (pair_beyond type rest) (pair_with next rest)

-- the pair of the first file, else of the first one whose type is spelled otherwise
abbrev pub clash_of : List (ℕ × List ℕ) → Option (ℕ × ℕ)
clash_of [] = None
clash_of (said ∷ rest) = option_or (pair_with said rest) (pair_beyond said.1 rest)
