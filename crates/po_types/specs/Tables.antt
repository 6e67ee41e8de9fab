-- Lists of what names stand for.
use Rattle.std.specs.Prelude.{ℕ, List, Option, nat_eq}
use Rattle.std.specs.Cmp.Lexicographic.{pointwise}
use Rattle.std.specs.Map.{lookup}

-- what the name stands for in the list
abbrev pub found : {V : Type 0} → List (List ℕ × V) → List ℕ → Option V
found entries name = lookup (pointwise nat_eq name) entries
