-- What was found at a place of tokens.
use Rattle.std.specs.Prelude.{ℕ, ◌≡◌, List, Option, Some, None}
use Rattle.po_tree.specs.declared.expression.Exp.{Exp}
use Rattle.po_tree.specs.declared.declaration.Decl.{Decl}
use Rattle.po_base.specs.declared.token.Token.{Token}
use Rattle.po_tree.specs.declared.statement.First.TheVariants as f
use Rattle.po_tree.specs.declared.statement.Stmt.{Stmt}
use Rattle.po_tree.specs.declared.statement.Stmt.TheVariants as st
use Rattle.po_tree.specs.NameSets.{AreSame}
use Rattle.po_tree.specs.Signs.{Sign}
use Rattle.po_exp_parts.specs.Places.{signs_between}
use Rattle.po_fun_parts.specs.Heads.{StepsStand}
use Rattle.po_stmt_laws.specs.Reading.{StatementReads}
use Rattle.po_stmt_laws.specs.Continuing.{ItemReads}

-- such a one stands at the place, with what is left behind it; none exactly where none stands there
abbrev pub IsRead : {A : Type 0} → (List Sign → A → List Sign → Type 0) → List Token → ℕ → ℕ → Option (A × ℕ) → Type 0
IsRead {A = A} R tokens at to None = (x : A) (left : List Sign) → R (signs_between tokens at to) x left → ⊥
IsRead R tokens at to (Some p) = R (signs_between tokens at to) p.0 (signs_between tokens p.1 to)

-- the same of an item of a block, behind which the names in force are these, in whatever order and however often
abbrev pub IsItemRead : List (List ℕ) → ℕ → List Token → ℕ → ℕ → List (List ℕ) → Option (Stmt × ℕ) → Type 0
IsItemRead types room tokens at to names None = (s : Stmt) (inner : List (List ℕ)) (left : List Sign) → ItemReads types room (signs_between tokens at to) s inner left → ⊥
IsItemRead types room tokens at to names (Some p) =
    (inner : List (List ℕ)) × AreSame inner names × ItemReads types room (signs_between tokens at to) p.0 inner (signs_between tokens p.1 to)

-- the condition, the step and the statement of a `for` behind its declaration, whose names are in force (6.8.5.3)
pub record LoopReads (types : List (List ℕ)) (room : ℕ) (d : Decl) (signs : List Sign) (s : Stmt) (left : List Sign) : Type 0 where
  pub test : Option Exp
  pub step : Option Exp
  pub last : List Sign
  pub body : Stmt
  pub whole : s ≡ st.For (f.Variables d) test step body
  pub steps : StepsStand types signs test step last
  pub reads : StatementReads types room last body left

-- the statement behind an `else`, and the `if` that it makes with what stands before it (6.8.4.1)
pub record ElseReads (types : List (List ℕ)) (room : ℕ) (x : Exp) (body : Stmt) (signs : List Sign) (s : Stmt) (left : List Sign) : Type 0 where
  pub other : Stmt
  pub whole : s ≡ st.If x body (Some other)
  pub reads : StatementReads types room signs other left
