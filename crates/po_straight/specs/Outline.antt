-- What stands at the front of signs, and what is left after it.
use Rattle.std.specs.Prelude.{ℕ, ◌≡◌, ◌^◌, ◌≤◌, List, [], ◌∷◌, ◌++◌, length}
use Rattle.std.specs.List.{flat_map}
use Rattle.po_straight.specs.declared.lexeme.Sign.{Sign}
use Rattle.po_straight.specs.declared.lexeme.Sign.TheVariants as s
use Rattle.po_straight.specs.declared.lexeme.Lexeme.{Lexeme}
use Rattle.po_straight.specs.declared.expression.Expression.{Expression}
use Rattle.po_straight.specs.declared.definition.Definition.{Definition}
use Rattle.po_straight.specs.Scopes.{Scope, Signature}
use Rattle.po_straight.specs.Expressions.{IsExpression}
use Rattle.po_straight.specs.Definitions.{signs, nodes_times_registers, IsDefinition, AreDefinitions}

-- the first sign is x
abbrev pub Begins : Sign → List Lexeme → Type 0
Begins x [] = ⊥
Begins x (lexeme ∷ lexemes) = lexeme.sign ≡ x

-- the signs are `front`, and then those of `left`
abbrev pub Leads : List Sign → List Lexeme → List Lexeme → Type 0
Leads front lexemes left = signs lexemes ≡ front ++ signs left

-- parameters with a comma behind each
abbrev pub with_commas : List (List ℕ) → List Sign
with_commas ps = flat_map (λ p. s.Int ∷ (s.Name p ∷ (s.Comma ∷ []))) ps

-- the sign ends no expression
abbrev pub IsOpen : Lexeme → Type 0
IsOpen lexeme = lexeme.sign ≡ s.Semicolon → ⊥

-- `return EXPRESSION;}` with its line, and what is left after it
pub record IsBody (scope : Scope) (line : ℕ) (value : Expression) (lexemes left : List Lexeme) : Type 0 where
  pub range : List Lexeme
  pub tail : List Lexeme
  pub parts : lexemes ≡ record { sign = s.Return; line = line } ∷ (range ++ (tail ++ left))
  pub valued : IsExpression scope value range
  pub ending : signs tail ≡ s.Semicolon ∷ (s.CloseBrace ∷ [])
  pub small : nodes_times_registers (length scope.parameters) value ≤ 2 ^ 22

-- a definition stands at the front, and `left` comes after it
pub record Starts (earlier : List Signature) (d : Definition) (lexemes left : List Lexeme) : Type 0 where
  pub part : List Lexeme
  pub parts : lexemes ≡ part ++ left
  pub defined : IsDefinition earlier d part

-- The definitions `front` were read from the signs, their functions are known, and `left` comes after them: the
-- definitions of `left` are those that are still to be read.
pub record AreFront (front : List Definition) (known : List Signature) (left lexemes : List Lexeme) : Type 0 where
  pub whole : (ds : List Definition) → AreDefinitions known ds left → AreDefinitions [] (front ++ ds) lexemes
  pub part : (es : List Definition) → AreDefinitions [] es lexemes → (ds : List Definition) × (es ≡ front ++ ds) × AreDefinitions known ds left
