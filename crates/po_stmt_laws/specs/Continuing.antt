-- What is read behind the start of a statement, and in a block (C99 6.8).
use Rattle.std.specs.Prelude.{ℕ, ◌≤◌, ◌<◌, ◌≡◌, List, ◌∷◌, ◌++◌, codes, Option, Some, None}
use Rattle.po_tree.specs.declared.expression.Exp.{Exp}
use Rattle.po_tree.specs.declared.declaration.Decl.{Decl}
use Rattle.po_tree.specs.declared.statement.First.TheVariants as f
use Rattle.po_tree.specs.declared.statement.Stmt.{Stmt}
use Rattle.po_tree.specs.declared.statement.Stmt.TheVariants as st
use Rattle.po_tree.specs.Signs.{Sign, word}
use Rattle.po_tree.specs.Printing.{flat_decl}
use Rattle.po_tree.specs.Heights.{decl_height}
use Rattle.po_tree.specs.Declarations.{Declared}
use Rattle.po_exp_parts.specs.Places.{Begins}
use Rattle.po_fun_parts.specs.declared.starts.Start.{Start}
use Rattle.po_fun_parts.specs.declared.starts.Start.TheVariants as start
use Rattle.po_fun_parts.specs.Heads.{StepsStand, TestStands}
use Rattle.po_fun_parts.specs.Standing.{first_of}
use Rattle.po_stmt_laws.specs.Reading.{StatementReads, ItemsRead}

-- a statement is read, and s is made of it
pub record BodyReads (make : Stmt → Stmt) (types : List (List ℕ)) (room : ℕ) (signs : List Sign) (s : Stmt) (left : List Sign) : Type 0 where
  pub body : Stmt
  pub whole : s ≡ make body
  pub reads : StatementReads types room signs body left

-- what is read behind the first statement of an `if`, which took no `else` itself: an `else` here is this one's (6.8.4.1p3)
pub data BranchReads (types : List (List ℕ)) (room : ℕ) (signs : List Sign) : Option Stmt → List Sign → Type 0 where
  alone : (Begins (word (codes "else")) signs → ⊥) → BranchReads types room signs None signs
  another : (t : Stmt) (behind left : List Sign) → signs ≡ word (codes "else") ∷ behind → StatementReads types room behind t left → BranchReads types room signs (Some t) left

-- the statements of an `if`
pub record BranchesRead (types : List (List ℕ)) (room : ℕ) (x : Exp) (signs : List Sign) (s : Stmt) (left : List Sign) : Type 0 where
  pub body : Stmt
  pub other : Option Stmt
  pub between : List Sign
  pub whole : s ≡ st.If x body other
  pub reads : StatementReads types room signs body between
  pub branch : BranchReads types room between other left

-- the statement of a `do`, and its test (6.8.5.2)
pub record RepeatedReads (types : List (List ℕ)) (room : ℕ) (signs : List Sign) (s : Stmt) (left : List Sign) : Type 0 where
  pub body : Stmt
  pub value : Exp
  pub between : List Sign
  pub whole : s ≡ st.Do body value
  pub reads : StatementReads types room signs body between
  pub test : TestStands types between value left

-- a declaration first in a `for`, and what is read behind it, where its names are in force (6.8.5.3)
pub record VariablesRead (types : List (List ℕ)) (room : ℕ) (signs : List Sign) (s : Stmt) (left : List Sign) : Type 0 where
  pub declaration : Decl
  pub inner : List (List ℕ)
  pub test : Option Exp
  pub step : Option Exp
  pub body : Stmt
  pub behind : List Sign
  pub last : List Sign
  pub whole : s ≡ st.For (f.Variables declaration) test step body
  pub declared : Declared types declaration inner
  pub low : decl_height declaration ≤ 256
  pub printed : signs ≡ flat_decl declaration ++ behind
  pub steps : StepsStand inner behind test step last
  pub reads : StatementReads inner room last body left

-- the statements and declarations of a block
pub record BlockReads (types : List (List ℕ)) (room : ℕ) (signs : List Sign) (s : Stmt) (left : List Sign) : Type 0 where
  pub xs : List Stmt
  pub whole : s ≡ st.Block xs
  pub reads : ItemsRead types room signs xs left

-- ReadsOn types room begun signs s left: behind this start, s is completed by the signs, with room for so many statements, and `left` are left
abbrev pub ReadsOn : List (List ℕ) → ℕ → Start → List Sign → Stmt → List Sign → Type 0
ReadsOn types room (start.Whole t) signs s left = (s ≡ t) × (signs ≡ left)
ReadsOn types room (start.If x) signs s left = BranchesRead types room x signs s left
ReadsOn types room (start.While x) signs s left = BodyReads (st.While x) types room signs s left
ReadsOn types room start.Do signs s left = RepeatedReads types room signs s left
ReadsOn types room (start.For first test step) signs s left = BodyReads (st.For (first_of first) test step) types room signs s left
ReadsOn types room start.ForVariables signs s left = VariablesRead types room signs s left
ReadsOn types room (start.Switch x) signs s left = BodyReads (st.Switch x) types room signs s left
ReadsOn types room (start.Case x) signs s left = BodyReads (st.Case x) types room signs s left
ReadsOn types room start.Default signs s left = BodyReads st.Default types room signs s left
ReadsOn types room (start.Label name) signs s left = BodyReads (st.Label name) types room signs s left
ReadsOn types room start.Block signs s left = BlockReads types room signs s left

-- one item of a block: a declaration, and the names in force behind it, or a statement (6.8.2)
pub data ItemReads (types : List (List ℕ)) (room : ℕ) (signs : List Sign) : Stmt → List (List ℕ) → List Sign → Type 0 where
  declaration : (d : Decl) (behind : List (List ℕ)) (left : List Sign) → 0 < room → Declared types d behind → decl_height d ≤ 256 → signs ≡ flat_decl d ++ left → ItemReads types room signs (st.Declare d) behind left
  statement : (s : Stmt) (left : List Sign) → StatementReads types room signs s left → ItemReads types room signs s types left

-- the first item of a block, and those behind it
pub record FirstItemReads (types : List (List ℕ)) (room : ℕ) (signs : List Sign) (xs : List Stmt) (left : List Sign) : Type 0 where
  pub first : Stmt
  pub rest : List Stmt
  pub inner : List (List ℕ)
  pub between : List Sign
  pub whole : xs ≡ first ∷ rest
  pub item : ItemReads types room signs first inner between
  pub reads : ItemsRead inner room between rest left
