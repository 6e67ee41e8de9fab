-- Which bytes are a file of definitions `int NAME(PARAMETERS){return EXPRESSION;}` (C99 6.9.1).
use Rattle.std.specs.Prelude.{ℕ, ◌+◌, ◌*◌, ◌^◌, ◌≤◌, ◌≡◌, List, [], ◌∷◌, ◌++◌, map, length, sum, sum_by}
use Rattle.std.specs.List.{flat_map}
use Rattle.po_straight.specs.declared.lexeme.Sign.{Sign}
use Rattle.po_straight.specs.declared.lexeme.Sign.TheVariants as s
use Rattle.po_straight.specs.declared.lexeme.Lexeme.{Lexeme}
use Rattle.po_straight.specs.declared.expression.Expression.{Expression, fold-Expression}
use Rattle.po_straight.specs.declared.expression.Expression.TheOpen.{Expression-F}
use Rattle.po_straight.specs.declared.definition.Definition.{Definition}
use Rattle.po_straight.specs.Distinct.{AllDiffer}
use Rattle.po_straight.specs.Scopes.{Scope, Signature}
use Rattle.po_straight.specs.Spelling.{Spells}
use Rattle.po_straight.specs.Expressions.{IsExpression}

abbrev pub signs : List Lexeme → List Sign
signs xs = map (λ x. x.sign) xs

-- `void`, or `int NAME` one or more times with commas between
abbrev pub parameter_signs : List (List ℕ) → List Sign
parameter_signs [] = s.Void ∷ []
parameter_signs (p ∷ ps) = s.Int ∷ (s.Name p ∷ flat_map (λ q. s.Comma ∷ (s.Int ∷ (s.Name q ∷ []))) ps)

-- `int NAME(PARAMETERS){`
abbrev pub heading_signs : List ℕ → List (List ℕ) → List Sign
heading_signs name parameters = s.Int ∷ (s.Name name ∷ (s.Open ∷ (parameter_signs parameters ++ (s.Close ∷ (s.OpenBrace ∷ [])))))

-- the operators and calls of one layer
abbrev pub operations_of : Expression-F ℕ → ℕ
operations_of (Expression-F.Parameter n) = 0
operations_of (Expression-F.Constant n) = 0
operations_of (Expression-F.Paren x) = x
operations_of (Expression-F.Call f line xs) = sum xs + 1
operations_of (Expression-F.Binary o line x y) = x + y + 1

-- how many operators and calls an expression has
unfoldable pub operations : Expression → ℕ
operations = fold-Expression ℕ operations_of

-- nodes times registers of a graph: a node for each operator and call and one for `return`, a register for each
-- parameter and for each operator and call
abbrev pub nodes_times_registers : ℕ → Expression → ℕ
nodes_times_registers parameters value = (operations value + 1) * (parameters + operations value)

abbrev pub graph_size : Definition → ℕ
graph_size d = nodes_times_registers (length d.parameters) d.value

abbrev pub signature_of : Definition → Signature
signature_of d = record { name = d.name; count = length d.parameters }

-- the functions that are known from a definition on: those known before it, and its own (C99 6.2.1p7)
abbrev pub known_with : List Signature → Definition → List Signature
known_with earlier d = earlier ++ signature_of d ∷ []

-- what names mean in a definition: its parameters, the functions defined earlier and the function itself
abbrev pub scope_of : List Signature → Definition → Scope
scope_of earlier d = record { parameters = d.parameters; functions = known_with earlier d }

-- the signs are those of the definition, behind those of the earlier functions
pub record IsDefinition (earlier : List Signature) (d : Definition) (xs : List Lexeme) : Type 0 where
  pub head : List Lexeme
  pub value : List Lexeme
  pub tail : List Lexeme
  pub parts : xs ≡ head ++ (record { sign = s.Return; line = d.line } ∷ (value ++ tail))
  pub heading : signs head ≡ heading_signs d.name d.parameters
  pub valued : IsExpression (scope_of earlier d) d.value value
  pub ending : signs tail ≡ s.Semicolon ∷ (s.CloseBrace ∷ [])
  pub distinct : AllDiffer d.parameters
  pub small : graph_size d ≤ 2 ^ 22

-- the signs are those of the definitions, one after the other, behind those of the earlier functions
pub data AreDefinitions : List Signature → List Definition → List Lexeme → Type 0 where
  none : (earlier : List Signature) → AreDefinitions earlier [] []
  more : (earlier : List Signature) (d : Definition) (ds : List Definition) (xs ys : List Lexeme) →
      IsDefinition earlier d xs → AreDefinitions (known_with earlier d) ds ys → AreDefinitions earlier (d ∷ ds) (xs ++ ys)

-- the signs are those of these definitions, whose names differ, within the limits on a file
pub record AreServed (ds : List Definition) (lexemes : List Lexeme) : Type 0 where
  pub defined : AreDefinitions [] ds lexemes
  pub distinct : AllDiffer (map (λ d. d.name) ds)
  pub few : length ds ≤ 65535
  pub small : sum_by graph_size ds ≤ 2 ^ 24

-- the bytes are a served file of these definitions
pub record IsFile (ds : List Definition) (bytes : List ℕ) : Type 0 where
  pub lexemes : List Lexeme
  pub spelled : Spells 1 lexemes bytes
  pub served : AreServed ds lexemes
