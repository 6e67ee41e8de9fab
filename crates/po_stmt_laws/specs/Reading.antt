-- Statements with room for so many of them on a path (C99 6.8).
use Rattle.std.specs.Prelude.{ℕ, ◌≤◌, List, map}
use Rattle.po_tree.specs.declared.statement.Stmt.{Stmt}
use Rattle.po_tree.specs.Signs.{Sign}
use Rattle.po_tree.specs.Heights.{stmt_depth, greatest}
use Rattle.po_fun_laws.specs.Endings.{EndsStatement}
use Rattle.po_fun_parts.specs.Standing.{StatementStands, ItemsStand}

-- s stands at the front, and takes the `else` behind it where it can (6.8.4.1p3); no path of it has more statements than there is room for
pub record StatementReads (types : List (List ℕ)) (room : ℕ) (signs : List Sign) (s : Stmt) (left : List Sign) : Type 0 where
  pub stands : StatementStands types signs s left
  pub ends : EndsStatement s left
  pub deep : stmt_depth s ≤ room

-- statements and declarations stand at the front, with the brace that closes their block (6.8.2)
pub record ItemsRead (types : List (List ℕ)) (room : ℕ) (signs : List Sign) (xs : List Stmt) (left : List Sign) : Type 0 where
  pub items : ItemsStand types signs xs left
  pub deep : greatest (map stmt_depth xs) ≤ room

-- the body of a function stands at the front, behind its opening brace: no path of it has more than 256 statements (6.9.1)
pub record BodyStands (types : List (List ℕ)) (signs : List Sign) (xs : List Stmt) (left : List Sign) : Type 0 where
  pub items : ItemsStand types signs xs left
  pub deep : greatest (map stmt_depth xs) ≤ 256
