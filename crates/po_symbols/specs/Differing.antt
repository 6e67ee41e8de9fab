-- Whether two types of a name differ, as it is computed from their spellings.
use Rattle.std.specs.Prelude.{ℕ, ◌==◌, List, [], ◌∷◌, Bool, false, not, ◌&&◌, cond, codes, bytes_eq, take, drop}

-- the text has a `]`, and the item behind the first one
abbrev pub follows_bracket : List ℕ → List ℕ → Bool
follows_bracket [] item = false
follows_bracket (byte ∷ rest) item = cond (byte == 93) (bytes_eq rest item) (follows_bracket rest item)

-- the first is an array without a size, and the second has anything in its place
abbrev pub is_sizeless : List ℕ → List ℕ → Bool
is_sizeless s t = cond (bytes_eq (codes "[]") (take 2 s)) (follows_bracket t (drop 2 s)) false

abbrev pub differ : List ℕ → List ℕ → Bool
differ s t = not (bytes_eq s t) && not (is_sizeless s t) && not (is_sizeless t s)
