-- A function's body is the items of a block with room for 256 statements on a path.
use Rattle.std.proofs.Common.{ℕ, List}
use Rattle.std.specs.Prelude.{Option, Some, None, IfSome, IfNone}
use Rattle.po_base.specs.declared.token.Token.{Token}
use Rattle.po_tree.specs.declared.statement.Stmt.{Stmt}
use Rattle.po_tree.specs.Signs.{Sign}
use Rattle.po_exp_parts.specs.Places.{signs_between}
use Rattle.po_stmt_laws.specs.Reading.{ItemsRead, BodyStands}
use Rattle.po_stmt_read.specs.Reads.{IsRead}

pub body_found : (types : List (List ℕ)) (tokens : List Token) (at to : ℕ) (found : Option (List Stmt × ℕ)) → IsRead (ItemsRead types 256) tokens at to found →
    IfSome found (λ p. BodyStands types (signs_between tokens at to) p.0 (signs_between tokens p.1 to))
body_found types tokens at to None w = tt
body_found types tokens at to (Some p) w = record { items = w.items; deep = w.deep }

pub body_none : (types : List (List ℕ)) (tokens : List Token) (at to : ℕ) (found : Option (List Stmt × ℕ)) → IsRead (ItemsRead types 256) tokens at to found →
    IfNone found ((xs : List Stmt) (left : List Sign) → BodyStands types (signs_between tokens at to) xs left → ⊥)
body_none types tokens at to None w = λ xs left b. w xs left (record { items = b.items; deep = b.deep })
body_none types tokens at to (Some p) w = tt
