-- Files in memory: pairs of a name and bytes.
use Rattle.std.specs.Prelude.{ℕ, List, Option, nat_eq, find}
use Rattle.std.specs.Option.{option_map}
use Rattle.std.specs.Cmp.Lexicographic.{pointwise}

-- the bytes of the first file of this name
abbrev pub bytes_of : List (List ℕ × List ℕ) → List ℕ → Option (List ℕ)
bytes_of files name = option_map (λ file. file.1) (find (λ file. pointwise nat_eq file.0 name) files)
