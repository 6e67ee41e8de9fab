-- Where the parts of a tree stand: how many expressions and how many tokens come before them.
use Rattle.std.specs.Prelude.{ℕ, suc, ◌+◌, List, ◌++◌, length, flat_map, Option, Some, None}
use Rattle.po_tree.specs.declared.expression.Exp.{Exp, out-Exp}
use Rattle.po_tree.specs.declared.expression.Exp.TheOpen.{Exp-F}
use Rattle.po_tree.specs.declared.expression.Specifier.{Specifier}
use Rattle.po_tree.specs.declared.expression.Declarator.{Declarator}
use Rattle.po_tree.specs.declared.expression.Suffix.{Suffix}
use Rattle.po_tree.specs.declared.expression.Member.{Member}
use Rattle.po_tree.specs.declared.expression.Param.{Param}
use Rattle.po_tree.specs.declared.expression.TypeName.{TypeName}
use Rattle.po_tree.specs.declared.declaration.Init.{Init}
use Rattle.po_tree.specs.declared.declaration.Decl.{Decl}
use Rattle.po_tree.specs.declared.statement.First.{First}
use Rattle.po_tree.specs.declared.statement.First.TheVariants as f
use Rattle.po_tree.specs.declared.statement.Stmt.{Stmt}
use Rattle.po_tree.specs.Printing.{flat, flat_specifier, flat_declarator, flat_type, flat_init, flat_part, flat_decl, flat_stmt, prints_star}
use Rattle.po_tree.specs.Order.{expressions, specifier_expressions, declarator_expressions, init_expressions, part_expressions, decl_expressions, stmt_expressions}

-- A place in a definition: so many expressions have their heads before it, and so many tokens stand before it. An expression's number is
-- that of its head.
pub record Place : Type 0 where
  pub number : ℕ
  pub token : ℕ

-- behind so many expressions and tokens
abbrev pub further : ℕ → ℕ → Place → Place
further expressions tokens p = record { number = p.number + expressions; token = p.token + tokens }

-- behind tokens that are no heads
abbrev pub skip : ℕ → Place → Place
skip n p = further 0 n p

-- behind a head of one token
abbrev pub next : Place → Place
next p = further 1 1 p

-- behind a part that begins at a place
unfoldable pub behind : Exp → Place → Place
behind x p = further (length (expressions x)) (length (flat x)) p

abbrev pub behind_specs : List Specifier → Place → Place
behind_specs xs p = further (length (flat_map specifier_expressions xs)) (length (flat_map flat_specifier xs)) p

abbrev pub behind_declarator : Declarator → Place → Place
behind_declarator d p = further (length (declarator_expressions d)) (length (flat_declarator d)) p

unfoldable pub behind_init : Init → Place → Place
behind_init x p = further (length (init_expressions x)) (length (flat_init x)) p

unfoldable pub behind_part : (Declarator × Option Init) → Place → Place
behind_part x p = further (length (part_expressions x)) (length (flat_part x)) p

abbrev pub behind_decl : Decl → Place → Place
behind_decl d p = further (length (decl_expressions d)) (length (flat_decl d)) p

unfoldable pub behind_stmt : Stmt → Place → Place
behind_stmt x p = further (length (stmt_expressions x)) (length (flat_stmt x)) p

unfoldable pub behind_all : List Stmt → Place → Place
behind_all xs p = further (length (flat_map stmt_expressions xs)) (length (flat_map flat_stmt xs)) p

-- the Word of a declarator stands behind its stars
abbrev pub word_of : Declarator → Place → Place
word_of d p = skip (length (flat_map prints_star d.stars)) p

-- An expression's head: its operator where that stands between or behind its operands, the `(` of a call, the `[`, the `?`; and else its
-- first token.
abbrev pub head_in : Exp-F Exp Specifier Suffix Declarator Member Param TypeName → Place → Place
head_in (Exp-F.Index x y) p = behind x p
head_in (Exp-F.Call x xs) p = behind x p
head_in (Exp-F.Dot x name) p = behind x p
head_in (Exp-F.Arrow x name) p = behind x p
head_in (Exp-F.PostInc x) p = behind x p
head_in (Exp-F.PostDec x) p = behind x p
head_in (Exp-F.Binary o x y) p = behind x p
head_in (Exp-F.LogAnd x y) p = behind x p
head_in (Exp-F.LogOr x y) p = behind x p
head_in (Exp-F.Cond x y z) p = behind x p
head_in (Exp-F.Assign o x y) p = behind x p
head_in (Exp-F.Comma x y) p = behind x p
head_in _ p = p

abbrev pub head_of : Exp → Place → Place
head_of x p = head_in (out-Exp x) p

-- the expressions of a type name
abbrev pub type_expressions : TypeName → List Exp
type_expressions t = flat_map specifier_expressions t.specs ++ declarator_expressions t.declarator

-- the operand of a cast stands behind the type name in its parentheses
abbrev pub operand_of_cast : TypeName → Place → Place
operand_of_cast t p = further (suc (length (type_expressions t))) (length (flat_type t) + 2) p

abbrev pub behind_optional : Option Exp → Place → Place
behind_optional None p = p
behind_optional (Some x) p = behind x p

-- what stands first in a `for`, with its semicolon
abbrev pub behind_first : First → Place → Place
behind_first f.Nothing p = skip 1 p
behind_first (f.Value x) p = skip 1 (behind x p)
behind_first (f.Variables d) p = behind_decl d p
