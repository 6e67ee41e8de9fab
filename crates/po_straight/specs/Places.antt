-- What the reader finds at a place of the list of signs.
use Rattle.std.specs.Prelude.{ℕ, ◌≤◌, ◌<◌, ◌≡◌, List, [], ◌∷◌, Option, Some, None, length, drop, map}
use Rattle.po_straight.specs.declared.lexeme.Sign.TheVariants as s
use Rattle.po_straight.specs.declared.lexeme.Lexeme.{Lexeme}
use Rattle.po_straight.specs.declared.expression.Expression.{Expression}
use Rattle.po_straight.specs.declared.read_expression.Found.{Found}
use Rattle.po_straight.specs.declared.read_expression.Operator.{Operator}
use Rattle.po_straight.specs.declared.read_expression.Arguments.{Arguments}
use Rattle.po_straight.specs.Scopes.{Scope}
use Rattle.po_straight.specs.Expressions.{IsOperator, height, greatest}
use Rattle.po_straight.specs.Reading.{Reads}

-- the first sign is this operator, of a level from l to m
abbrev pub GoesOnBy : ℕ → ℕ → Operator → List Lexeme → Type 0
GoesOnBy l m operator [] = ⊥
GoesOnBy l m operator (mark ∷ ts) =
    IsOperator operator.op mark.sign operator.level × (operator.line ≡ mark.line) × (l ≤ operator.level) × (operator.level ≤ m)

-- an expression and a closing parenthesis behind it
pub data Closed (scope : Scope) : List Lexeme → Expression → List Lexeme → Type 0 where
  close : (x : Expression) (last : Lexeme) (ts us : List Lexeme) →
      last.sign ≡ s.Close → Reads scope 0 ts x (last ∷ us) → Closed scope ts x us

-- what was found of the expressions that can stand at a place and have no greater height than `depth`; if nothing,
-- none of them stands there
abbrev pub IsFound : (List Lexeme → Expression → List Lexeme → Type 0) → ℕ → ℕ → List Lexeme → Option Found → Type 0
IsFound Stands depth at ts None = (x : Expression) (us : List Lexeme) → Stands (drop at ts) x us → height x ≤ depth → ⊥
IsFound Stands depth at ts (Some found) =
    Stands (drop at ts) found.value (drop found.end ts) × (found.height ≡ height found.value) × (found.height ≤ depth) ×
    (at < found.end) × (found.end ≤ length ts)

-- the greatest height of a called name and its arguments
abbrev pub height_of_call : List Expression → ℕ
height_of_call xs = greatest (1 ∷ map height xs)

-- the same of arguments
abbrev pub AreFound : (List Lexeme → List Expression → List Lexeme → Type 0) → ℕ → ℕ → List Lexeme → Option Arguments → Type 0
AreFound Stand depth at ts None = (xs : List Expression) (us : List Lexeme) → Stand (drop at ts) xs us → height_of_call xs ≤ depth → ⊥
AreFound Stand depth at ts (Some found) =
    Stand (drop at ts) found.values (drop found.end ts) × (found.height ≡ height_of_call found.values) × (found.height ≤ depth) ×
    (at < found.end) × (found.end ≤ length ts)
