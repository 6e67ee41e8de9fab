-- How deep trees are: the most expressions, and the most statements, on a path from the root to a leaf.
use Rattle.std.specs.Prelude.{ℕ, suc, max, List, [], ◌∷◌, map, Option, Some, None}
use Rattle.po_tree.specs.declared.expression.Exp.{Exp, fold-Exp}
use Rattle.po_tree.specs.declared.expression.Exp.TheOpen.{Exp-F, Specifier-F, Suffix-F, Declarator-F, Member-F, Param-F, TypeName-F}
use Rattle.po_tree.specs.declared.expression.Specifier.{Specifier, fold-Specifier}
use Rattle.po_tree.specs.declared.expression.Suffix.{Suffix, fold-Suffix}
use Rattle.po_tree.specs.declared.expression.Declarator.{Declarator, fold-Declarator}
use Rattle.po_tree.specs.declared.expression.TypeName.{TypeName, fold-TypeName}
use Rattle.po_tree.specs.declared.declaration.Init.{Init, fold-Init}
use Rattle.po_tree.specs.declared.declaration.Init.TheOpen.{Init-F}
use Rattle.po_tree.specs.declared.declaration.Decl.{Decl}
use Rattle.po_tree.specs.declared.statement.First.{First}
use Rattle.po_tree.specs.declared.statement.First.TheVariants as f
use Rattle.po_tree.specs.declared.statement.Stmt.{Stmt, fold-Stmt}
use Rattle.po_tree.specs.declared.statement.Stmt.TheOpen.{Stmt-F}
use Rattle.po_tree.specs.declared.function.FunTree.{FunTree}

-- the greatest of some numbers, 0 of none
abbrev pub greatest : List ℕ → ℕ
greatest [] = 0
greatest (n ∷ ns) = max n (greatest ns)

-- 0 where nothing is there
abbrev pub or_none : {A : Type 0} → (A → ℕ) → Option A → ℕ
or_none f None = 0
or_none f (Some x) = f x

-- One layer of each kind of tree, from how deep its parts are: an expression counts itself, nothing else counts.

abbrev pub rises_exp : Exp-F ℕ ℕ ℕ ℕ ℕ ℕ ℕ → ℕ
rises_exp (Exp-F.Var name) = 1
rises_exp (Exp-F.Num text) = 1
rises_exp (Exp-F.Chr text) = 1
rises_exp (Exp-F.Str texts) = 1
rises_exp (Exp-F.Paren x) = suc x
rises_exp (Exp-F.Index x y) = suc (max x y)
rises_exp (Exp-F.Call x xs) = suc (max x (greatest xs))
rises_exp (Exp-F.Dot x name) = suc x
rises_exp (Exp-F.Arrow x name) = suc x
rises_exp (Exp-F.PostInc x) = suc x
rises_exp (Exp-F.PostDec x) = suc x
rises_exp (Exp-F.PreInc x) = suc x
rises_exp (Exp-F.PreDec x) = suc x
rises_exp (Exp-F.Addr x) = suc x
rises_exp (Exp-F.Deref x) = suc x
rises_exp (Exp-F.Plus x) = suc x
rises_exp (Exp-F.Minus x) = suc x
rises_exp (Exp-F.Compl x) = suc x
rises_exp (Exp-F.Not x) = suc x
rises_exp (Exp-F.SizeExp x) = suc x
rises_exp (Exp-F.SizeType t) = suc t
rises_exp (Exp-F.Cast t x) = suc (max t x)
rises_exp (Exp-F.Binary o x y) = suc (max x y)
rises_exp (Exp-F.LogAnd x y) = suc (max x y)
rises_exp (Exp-F.LogOr x y) = suc (max x y)
rises_exp (Exp-F.Cond x y z) = suc (max x (max y z))
rises_exp (Exp-F.Assign o x y) = suc (max x y)
rises_exp (Exp-F.Comma x y) = suc (max x y)

abbrev pub enumerator_height : (List ℕ × Option ℕ) → ℕ
enumerator_height (name, value) = or_none (λ n. n) value

abbrev pub rises_specifier : Specifier-F ℕ ℕ ℕ ℕ ℕ ℕ ℕ → ℕ
rises_specifier (Specifier-F.Word text) = 0
rises_specifier (Specifier-F.Named name) = 0
rises_specifier (Specifier-F.Struct tag members) = or_none greatest members
rises_specifier (Specifier-F.Enum tag items more) = or_none (λ xs. greatest (map enumerator_height xs)) items

abbrev pub rises_suffix : Suffix-F ℕ ℕ ℕ ℕ ℕ ℕ ℕ → ℕ
rises_suffix Suffix-F.Plain = 0
rises_suffix (Suffix-F.Arrays sizes) = greatest (map (or_none (λ n. n)) sizes)
rises_suffix (Suffix-F.Params params more) = greatest params

abbrev pub rises_declarator : Declarator-F ℕ ℕ ℕ ℕ ℕ ℕ ℕ → ℕ
rises_declarator d = d.suffix

abbrev pub rises_member : Member-F ℕ ℕ ℕ ℕ ℕ ℕ ℕ → ℕ
rises_member m = max (greatest m.specs) (greatest m.declarators)

abbrev pub rises_param : Param-F ℕ ℕ ℕ ℕ ℕ ℕ ℕ → ℕ
rises_param x = max (greatest x.specs) x.declarator

abbrev pub rises_type : TypeName-F ℕ ℕ ℕ ℕ ℕ ℕ ℕ → ℕ
rises_type t = max (greatest t.specs) t.declarator

-- the most expressions on a path of an expression
unfoldable pub height : Exp → ℕ
height = fold-Exp _ _ _ _ _ _ _ rises_exp rises_specifier rises_suffix rises_declarator rises_member rises_param rises_type

unfoldable pub specifier_height : Specifier → ℕ
specifier_height = fold-Specifier _ _ _ _ _ _ _ rises_exp rises_specifier rises_suffix rises_declarator rises_member rises_param rises_type

unfoldable pub suffix_height : Suffix → ℕ
suffix_height = fold-Suffix _ _ _ _ _ _ _ rises_exp rises_specifier rises_suffix rises_declarator rises_member rises_param rises_type

unfoldable pub declarator_height : Declarator → ℕ
declarator_height = fold-Declarator _ _ _ _ _ _ _ rises_exp rises_specifier rises_suffix rises_declarator rises_member rises_param rises_type

unfoldable pub type_height : TypeName → ℕ
type_height = fold-TypeName _ _ _ _ _ _ _ rises_exp rises_specifier rises_suffix rises_declarator rises_member rises_param rises_type

abbrev pub rises_init : Init-F ℕ → ℕ
rises_init (Init-F.One x) = height x
rises_init (Init-F.Many xs more) = greatest xs

unfoldable pub init_height : Init → ℕ
init_height = fold-Init _ rises_init

abbrev pub part_height : (Declarator × Option Init) → ℕ
part_height (d, init) = max (declarator_height d) (or_none init_height init)

abbrev pub decl_height : Decl → ℕ
decl_height d = max (greatest (map specifier_height d.specs)) (greatest (map part_height d.parts))

abbrev pub first_height : First → ℕ
first_height f.Nothing = 0
first_height (f.Value x) = height x
first_height (f.Variables d) = decl_height d

-- the most expressions on a path of a statement
abbrev pub rises_stmt : Stmt-F ℕ → ℕ
rises_stmt (Stmt-F.Block xs) = greatest xs
rises_stmt (Stmt-F.Declare d) = decl_height d
rises_stmt (Stmt-F.ExpS x) = height x
rises_stmt Stmt-F.Empty = 0
rises_stmt (Stmt-F.If x then_ else_) = max (height x) (max then_ (or_none (λ n. n) else_))
rises_stmt (Stmt-F.While x body) = max (height x) body
rises_stmt (Stmt-F.Do body x) = max body (height x)
rises_stmt (Stmt-F.For first test step body) = max (first_height first) (max (or_none height test) (max (or_none height step) body))
rises_stmt (Stmt-F.Switch x body) = max (height x) body
rises_stmt (Stmt-F.Case x body) = max (height x) body
rises_stmt (Stmt-F.Default body) = body
rises_stmt (Stmt-F.Label name body) = body
rises_stmt (Stmt-F.Goto name) = 0
rises_stmt Stmt-F.Break = 0
rises_stmt Stmt-F.Continue = 0
rises_stmt (Stmt-F.Return x) = or_none height x

unfoldable pub stmt_height : Stmt → ℕ
stmt_height = fold-Stmt _ rises_stmt

-- the most statements on a path of a statement, where a declaration in a block counts as one
abbrev pub deepens : Stmt-F ℕ → ℕ
deepens (Stmt-F.Block xs) = suc (greatest xs)
deepens (Stmt-F.If x then_ else_) = suc (max then_ (or_none (λ n. n) else_))
deepens (Stmt-F.While x body) = suc body
deepens (Stmt-F.Do body x) = suc body
deepens (Stmt-F.For first test step body) = suc body
deepens (Stmt-F.Switch x body) = suc body
deepens (Stmt-F.Case x body) = suc body
deepens (Stmt-F.Default body) = suc body
deepens (Stmt-F.Label name body) = suc body
deepens _ = 1

unfoldable pub stmt_depth : Stmt → ℕ
stmt_depth = fold-Stmt _ deepens

-- of a definition, whose body itself is no statement
abbrev pub fun_height : FunTree → ℕ
fun_height g =
    max (greatest (map specifier_height g.specs)) (max (declarator_height g.declarator) (greatest (map stmt_height g.body)))

abbrev pub fun_depth : FunTree → ℕ
fun_depth g = greatest (map stmt_depth g.body)
