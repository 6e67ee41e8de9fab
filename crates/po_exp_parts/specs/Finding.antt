-- What the reader finds at a place.
use Rattle.std.specs.Prelude.{ℕ, ◌+◌, ◌≤◌, ◌≡◌, List, [], ◌∷◌, length, Option, Some, None}
use Rattle.po_base.specs.declared.token.Token.{Token}
use Rattle.po_tree.specs.declared.expression.Exp.{Exp}
use Rattle.po_tree.specs.declared.expression.TypeName.{TypeName}
use Rattle.po_tree.specs.declared.expression.Specifier.{Specifier}
use Rattle.po_tree.specs.declared.expression.Suffix.{Suffix}
use Rattle.po_tree.specs.declared.expression.Suffix.TheVariants as su
use Rattle.po_exp_parts.specs.declared.continuation.Continuation.{Continuation}
use Rattle.po_exp_parts.specs.declared.found.Found.{Found}
use Rattle.po_exp_parts.specs.declared.found.Leveled.{Leveled}
use Rattle.po_tree.specs.Signs.{Sign}
use Rattle.po_tree.specs.Heights.{height}
use Rattle.po_exp_parts.specs.Continuing.{IsUsed, level_of, least_before}
use Rattle.po_exp_parts.specs.Places.{signs_from}
use Rattle.po_exp_parts.specs.Reading.{Operand}

-- x stands here, is no higher than `depth`, and nothing of at most this height that stands here is longer
pub record IsBest {A : Type 0} (high : A → ℕ) (Stands : A → List Sign → Type 0) (depth : ℕ) (x : A) (left : List Sign) : Type 0 where
  pub stands : Stands x left
  pub shallow : high x ≤ depth
  pub best : (y : A) (rest : List Sign) → Stands y rest → high y ≤ depth → length left ≤ length rest

-- nothing of at most this height stands here
abbrev pub IsNone : {A : Type 0} → (A → ℕ) → (A → List Sign → Type 0) → ℕ → Type 0
IsNone {A = A} high Stands depth = (y : A) (rest : List Sign) → Stands y rest → high y ≤ depth → ⊥

-- what was found at a place, with its height and its end
pub record IsFound {A : Type 0} (high : A → ℕ) (Stands : A → List Sign → Type 0) (depth at : ℕ) (tokens : List Token) (found : Found A) : Type 0 where
  pub best : IsBest high Stands depth found.value (signs_from tokens found.end)
  pub counted : found.height ≡ high found.value
  pub after : at ≤ found.end
  pub within : found.end ≤ length tokens

abbrev pub Finds : {A : Type 0} → (A → ℕ) → (A → List Sign → Type 0) → ℕ → ℕ → List Token → Option (Found A) → Type 0
Finds high Stands depth at tokens None = IsNone high Stands depth
Finds high Stands depth at tokens (Some found) = IsFound high Stands depth at tokens found

-- what was made of what was found, which is `rise` higher
abbrev pub through : {A B : Type 0} → (A → B) → ℕ → Found A → Found B
through make rise found = record { value = make found.value; height = found.height + rise; end = found.end }

abbrev pub operand_height : Leveled → ℕ
operand_height o = height o.value

-- the first operand of an expression of level `least` or a higher one
abbrev pub StandsAsOperand : List (List ℕ) → ℕ → List Sign → Leveled → List Sign → Type 0
StandsAsOperand types least signs o left = (least ≤ o.level) × Operand types signs o.level o.value left

-- a continuation of an operand of level `most`, at level `least` or a higher one
abbrev pub Continues : ℕ → ℕ → Continuation → Type 0
Continues least most c = IsUsed c × (least ≤ level_of c) × (least_before c ≤ most)

abbrev pub leveled : ℕ → Exp → Leveled
leveled level x = record { value = x; level = level }

-- what stands behind the stars of a type name with these sizes
abbrev pub suffix_of : List (Option Exp) → Suffix
suffix_of [] = su.Plain
suffix_of (size ∷ sizes) = su.Arrays (size ∷ sizes)

abbrev pub type_of : List Specifier → List (List (List ℕ)) → List (Option Exp) → TypeName
type_of specs stars sizes = record { specs = specs; declarator = record { stars = stars; name = None; suffix = suffix_of sizes } }
