-- The statement at the front of tokens (C99 6.8), and what goes on behind its start.
use Rattle.std.specs.Prelude.{ℕ, ◌≤◌, ◌≡◌, false, List, ◌∷◌, ◌++◌, map, flat_map, codes, Option, Some, None}
use Rattle.po_tree.specs.declared.expression.Exp.{Exp}
use Rattle.po_tree.specs.declared.declaration.Decl.{Decl}
use Rattle.po_tree.specs.declared.statement.First.{First}
use Rattle.po_tree.specs.declared.statement.First.TheVariants as f
use Rattle.po_tree.specs.declared.statement.Stmt.{Stmt}
use Rattle.po_tree.specs.declared.statement.Stmt.TheVariants as st
use Rattle.po_tree.specs.Signs.{Sign, word, brace_end}
use Rattle.po_tree.specs.Printing.{flat_decl, flat_stmt}
use Rattle.po_tree.specs.Heights.{decl_height, stmt_height, greatest}
use Rattle.po_tree.specs.Declarations.{Declared}
use Rattle.po_tree.specs.Statements.{takes_else, IsStatement, AreItems}
use Rattle.po_fun_parts.specs.declared.starts.Start.{Start}
use Rattle.po_fun_parts.specs.declared.starts.Start.TheVariants as start
use Rattle.po_fun_parts.specs.Heads.{StepsStand, TestStands}

-- s is a well-formed statement, none of whose paths has more than 256 expressions, where `types` are the typedef names in force; the tokens
-- are those that it prints, and then these
pub record StatementStands (types : List (List ℕ)) (signs : List Sign) (s : Stmt) (left : List Sign) : Type 0 where
  pub formed : IsStatement types s
  pub nested : stmt_height s ≤ 256
  pub printed : signs ≡ flat_stmt s ++ left

-- the same of statements and declarations, and the brace that closes their block (6.8.2)
pub record ItemsStand (types : List (List ℕ)) (signs : List Sign) (xs : List Stmt) (left : List Sign) : Type 0 where
  pub formed : AreItems types xs
  pub nested : greatest (map stmt_height xs) ≤ 256
  pub printed : signs ≡ flat_map flat_stmt xs ++ (brace_end ∷ left)

-- a statement stands at the front, and s is made of it
pub record BodyThen (make : Stmt → Stmt) (types : List (List ℕ)) (signs : List Sign) (s : Stmt) (left : List Sign) : Type 0 where
  pub body : Stmt
  pub whole : s ≡ make body
  pub stands : StatementStands types signs body left

-- what stands behind the first statement of an `if`: an `else` belongs to the nearest `if` (6.8.4.1p3)
pub data BranchStands (types : List (List ℕ)) (body : Stmt) (signs : List Sign) : Option Stmt → List Sign → Type 0 where
  no_else : BranchStands types body signs None signs
  else_stands : (t : Stmt) (behind left : List Sign) → takes_else body ≡ false → signs ≡ word (codes "else") ∷ behind → StatementStands types behind t left →
      BranchStands types body signs (Some t) left

-- the statements of an `if`
pub record BranchesThen (types : List (List ℕ)) (x : Exp) (signs : List Sign) (s : Stmt) (left : List Sign) : Type 0 where
  pub body : Stmt
  pub other : Option Stmt
  pub between : List Sign
  pub whole : s ≡ st.If x body other
  pub stands : StatementStands types signs body between
  pub branch : BranchStands types body between other left

-- the statement of a `do`, and its test
pub record RepeatedThen (types : List (List ℕ)) (signs : List Sign) (s : Stmt) (left : List Sign) : Type 0 where
  pub body : Stmt
  pub value : Exp
  pub between : List Sign
  pub whole : s ≡ st.Do body value
  pub stands : StatementStands types signs body between
  pub test : TestStands types between value left

-- a declaration that stands first in a `for`, and what stands behind it, where its names are in force (6.8.5.3)
pub record VariablesThen (types : List (List ℕ)) (signs : List Sign) (s : Stmt) (left : List Sign) : Type 0 where
  pub declaration : Decl
  pub inner : List (List ℕ)
  pub test : Option Exp
  pub step : Option Exp
  pub body : Stmt
  pub behind : List Sign
  pub last : List Sign
  pub whole : s ≡ st.For (f.Variables declaration) test step body
  pub declared : Declared types declaration inner
  pub low : decl_height declaration ≤ 256
  pub printed : signs ≡ flat_decl declaration ++ behind
  pub steps : StepsStand inner behind test step last
  pub stands : StatementStands inner last body left

-- the statements and declarations of a block
pub record BlockThen (types : List (List ℕ)) (signs : List Sign) (s : Stmt) (left : List Sign) : Type 0 where
  pub items : List Stmt
  pub whole : s ≡ st.Block items
  pub stands : ItemsStand types signs items left

-- an expression first in a `for`, or nothing
abbrev pub first_of : Option Exp → First
first_of None = f.Nothing
first_of (Some x) = f.Value x

-- Continues types begun signs s left: behind this start, s is completed by the signs, and `left` are left
abbrev pub Continues : List (List ℕ) → Start → List Sign → Stmt → List Sign → Type 0
Continues types (start.Whole t) signs s left = (s ≡ t) × (signs ≡ left)
Continues types (start.If x) signs s left = BranchesThen types x signs s left
Continues types (start.While x) signs s left = BodyThen (st.While x) types signs s left
Continues types start.Do signs s left = RepeatedThen types signs s left
Continues types (start.For first test step) signs s left = BodyThen (st.For (first_of first) test step) types signs s left
Continues types start.ForVariables signs s left = VariablesThen types signs s left
Continues types (start.Switch x) signs s left = BodyThen (st.Switch x) types signs s left
Continues types (start.Case x) signs s left = BodyThen (st.Case x) types signs s left
Continues types start.Default signs s left = BodyThen st.Default types signs s left
Continues types (start.Label name) signs s left = BodyThen (st.Label name) types signs s left
Continues types start.Block signs s left = BlockThen types signs s left
