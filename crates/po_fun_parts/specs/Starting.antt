-- What a statement begins with (C99 6.8).
use Rattle.std.specs.Prelude.{ℕ, ◌≡◌, ◌⊎◌, List, ◌∷◌, Option}
use Rattle.po_tree.specs.declared.expression.Exp.{Exp}
use Rattle.po_tree.specs.declared.statement.Stmt.{Stmt}
use Rattle.po_tree.specs.declared.statement.Stmt.TheVariants as st
use Rattle.po_tree.specs.Signs.{Sign, word, brace, semicolon, colon}
use Rattle.po_tree.specs.Words.{IsName}
use Rattle.po_exp_read.specs.Longest.{StandsBefore, StandsAt}
use Rattle.po_fun_parts.specs.declared.keywords.Keyword.{Keyword}
use Rattle.po_fun_parts.specs.declared.keywords.Keyword.TheVariants as keyword
use Rattle.po_fun_parts.specs.declared.starts.Start.{Start}
use Rattle.po_fun_parts.specs.declared.starts.Start.TheVariants as start
use Rattle.po_fun_parts.specs.Stops.{OptionalStands}
use Rattle.po_fun_parts.specs.Keywords.{spelling}
use Rattle.po_fun_parts.specs.Heads.{ParenthesisedStands, ForStands, ForOpens}

-- what begins with this keyword, with ts behind it; `left` are left
abbrev pub StartsBehind : Keyword → List (List ℕ) → List Sign → Start → List Sign → Type 0
StartsBehind keyword.If types ts begun left = (x : Exp) × (begun ≡ start.If x) × ParenthesisedStands types ts x left
StartsBehind keyword.While types ts begun left = (x : Exp) × (begun ≡ start.While x) × ParenthesisedStands types ts x left
StartsBehind keyword.Do types ts begun left = (begun ≡ start.Do) × (ts ≡ left)
StartsBehind keyword.For types ts begun left =
    ((first : Option Exp) × (test : Option Exp) × (step : Option Exp) × (begun ≡ start.For first test step) × ForStands types ts first test step left) ⊎
    ((begun ≡ start.ForVariables) × ForOpens types ts left)
StartsBehind keyword.Switch types ts begun left = (x : Exp) × (begun ≡ start.Switch x) × ParenthesisedStands types ts x left
-- a constant is a conditional expression (6.6)
StartsBehind keyword.Case types ts begun left = (x : Exp) × (begun ≡ start.Case x) × StandsAt 2 types ts x (colon ∷ left)
StartsBehind keyword.Default types ts begun left = (begun ≡ start.Default) × (ts ≡ colon ∷ left)
StartsBehind keyword.Goto types ts begun left = (name : List ℕ) × (begun ≡ start.Whole (st.Goto name)) × IsName name × (ts ≡ word name ∷ (semicolon ∷ left))
StartsBehind keyword.Break types ts begun left = (begun ≡ start.Whole st.Break) × (ts ≡ semicolon ∷ left)
StartsBehind keyword.Continue types ts begun left = (begun ≡ start.Whole st.Continue) × (ts ≡ semicolon ∷ left)
StartsBehind keyword.Return types ts begun left = (x : Option Exp) × (begun ≡ start.Whole (st.Return x)) × OptionalStands types semicolon ts x left

-- StatementStarts types signs begun left: the signs begin with this, and `left` are left, where `types` are the typedef names in force
pub data StatementStarts (types : List (List ℕ)) : List Sign → Start → List Sign → Type 0 where
  block : (left : List Sign) → StatementStarts types (brace ∷ left) start.Block left
  empty : (left : List Sign) → StatementStarts types (semicolon ∷ left) (start.Whole st.Empty) left
  expression : (x : Exp) (signs left : List Sign) → StandsBefore types signs x (semicolon ∷ left) → StatementStarts types signs (start.Whole (st.ExpS x)) left
  label : (name : List ℕ) (left : List Sign) → IsName name → StatementStarts types (word name ∷ (colon ∷ left)) (start.Label name) left
  by_keyword : (k : Keyword) (ts : List Sign) (begun : Start) (left : List Sign) → StartsBehind k types ts begun left → StatementStarts types (word (spelling k) ∷ ts) begun left

-- no statement begins at the front
abbrev pub NoStart : List (List ℕ) → List Sign → Type 0
NoStart types signs = (begun : Start) (left : List Sign) → StatementStarts types signs begun left → ⊥

-- no expression with a semicolon behind it stands there
abbrev pub NoExpression : List (List ℕ) → List Sign → Type 0
NoExpression types signs = (x : Exp) (left : List Sign) → StandsBefore types signs x (semicolon ∷ left) → ⊥
