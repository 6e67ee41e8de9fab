-- How far the reading of a file has come.
use Rattle.std.specs.Prelude.{ℕ, ◌≡◌, List, ◌++◌, Option, IfSome}

-- where a file's bytes are told, these are the first of them
abbrev pub IsFront : Option (List ℕ) → List ℕ → Type 0
IsFront told read = IfSome told (λ bytes. (rest : List ℕ) × (bytes ≡ read ++ rest))

-- where a file's bytes are told, these are all of them
abbrev pub IsWhole : Option (List ℕ) → List ℕ → Type 0
IsWhole told read = IfSome told (λ bytes. read ≡ bytes)
