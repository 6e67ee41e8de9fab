-- What stands between its ends: an expression with the token that closes it, a type name in parentheses, a list.
use Rattle.std.specs.Prelude.{ℕ, List, ◌∷◌, map, Option}
use Rattle.po_tree.specs.declared.expression.Exp.{Exp}
use Rattle.po_tree.specs.declared.expression.TypeName.{TypeName}
use Rattle.po_tree.specs.Signs.{Sign, closing}
use Rattle.po_tree.specs.Heights.{height, greatest, or_none}
use Rattle.po_exp_parts.specs.Continuing.{GoesOn}
use Rattle.po_exp_parts.specs.Reading.{Reads, TypeRead}

-- an expression of level `least` or a higher one with this token behind it
abbrev pub StandsClosed : List (List ℕ) → ℕ → Sign → List Sign → Exp → List Sign → Type 0
StandsClosed types least last signs x left = Reads types least signs x (last ∷ left)

-- nothing goes on with this token
abbrev pub Closes : ℕ → Sign → Type 0
Closes least last = (ts : List Sign) → GoesOn least (last ∷ ts) → ⊥

-- a type name and the parenthesis that closes it
abbrev pub StandsEnclosed : List (List ℕ) → List Sign → TypeName → List Sign → Type 0
StandsEnclosed types signs t left = TypeRead types signs t (closing ∷ left)

abbrev pub list_height : List Exp → ℕ
list_height xs = greatest (map height xs)

abbrev pub sizes_height : List (Option Exp) → ℕ
sizes_height sizes = greatest (map (or_none height) sizes)
