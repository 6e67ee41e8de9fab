-- What remains of a text behind what stands at one of its places.
use Rattle.std.specs.Prelude.{ℕ, List, drop, Option, Some, None}
use Rattle.po_exp_parts.specs.declared.characters.FirstCharacter.{FirstCharacter}

-- what is left of a text behind the end that was found
abbrev pub left_at : List ℕ → Option ℕ → Option (List ℕ)
left_at text None = None
left_at text (Some end) = Some (drop end text)

-- the value of the character that was found, and what is left behind it
abbrev pub read_at : List ℕ → Option FirstCharacter → Option (ℕ × List ℕ)
read_at text None = None
read_at text (Some c) = Some (c.value, drop c.end text)
