-- The function definition that tokens are (C99 6.9.1).
use Rattle.std.specs.Prelude.{ℕ, max, ◌≤◌, ◌≡◌, List, ◌++◌, map, flat_map}
use Rattle.po_base.specs.declared.token.Tokens.{Tokens}
use Rattle.po_tree.specs.declared.expression.Specifier.{Specifier}
use Rattle.po_tree.specs.declared.expression.Declarator.{Declarator}
use Rattle.po_tree.specs.declared.statement.Stmt.{Stmt}
use Rattle.po_tree.specs.declared.function.FunTree.{FunTree}
use Rattle.po_tree.specs.Signs.{Sign}
use Rattle.po_tree.specs.Printing.{flat_specifier, flat_declarator, flat_stmt, flat_fun, in_braces}
use Rattle.po_tree.specs.Heights.{specifier_height, declarator_height, stmt_height, stmt_depth, greatest}
use Rattle.po_tree.specs.Statements.{AreItems, IsDefinition, places_of}
use Rattle.po_exp_parts.specs.Places.{signs_between}
use Rattle.po_fun_heads.specs.Heads.{IsHead}
use Rattle.po_fun_heads.specs.Marks.{spots_between}

-- the signs are those of a head and of a body in braces, none of whose paths has more than 256 expressions or 256 statements
pub record FunctionStands (types : List (List ℕ)) (signs : List Sign) (specs : List Specifier) (declarator : Declarator) (body : List Stmt) : Type 0 where
  pub inside : List (List ℕ)
  pub formed : IsHead types specs declarator inside
  pub items : AreItems inside body
  pub nested : max (greatest (map specifier_height specs)) (max (declarator_height declarator) (greatest (map stmt_height body))) ≤ 256
  pub deep : greatest (map stmt_depth body) ≤ 256
  pub printed : signs ≡ flat_map flat_specifier specs ++ (flat_declarator declarator ++ in_braces (flat_map flat_stmt body))

-- g is a well-formed definition where `types` are the typedef names in force; the tokens from one place to another are those that it prints, in
-- the files and lines that its marks give
pub record DefinitionStands (types : List (List ℕ)) (tokens : Tokens) (from to : ℕ) (g : FunTree) : Type 0 where
  pub defined : IsDefinition types g
  pub printed : signs_between tokens.list from to ≡ flat_fun g
  pub placed : spots_between tokens from to ≡ places_of g
