-- The words of a command.
use Rattle.std.specs.Prelude.{ℕ, ◌<◌, ◌≤◌, ◌≡◌, ◌≢◌, List, [], ◌∷◌, Some, All, codes, length, slice_get}

-- the name of a file: not empty, not begun by `-`, and without a byte below 32
abbrev pub IsFileName : List ℕ → Type 0
IsFileName name = (0 < length name) × (slice_get name 0 ≢ Some 45) × All (λ b. 32 ≤ b) name

-- the words are `check FILE` with this name
abbrev pub IsCheck : List (List ℕ) → List ℕ → Type 0
IsCheck words name = (words ≡ codes "check" ∷ (name ∷ [])) × IsFileName name

abbrev pub usage_text : List ℕ
usage_text = codes "usage: cproof check FILE\n"
