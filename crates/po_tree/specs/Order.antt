-- The order in which the expressions of a tree are counted: that of their heads among the tokens. The head of parentheses and of a cast
-- is the opening parenthesis, that of `? :` the `?`, that of a call its `(`, that of a primary its first token, and that of any other
-- expression its operator.
use Rattle.std.specs.Prelude.{ℕ, List, [], ◌∷◌, ◌++◌, map, flat_map, Option, Some, None}
use Rattle.po_tree.specs.declared.expression.Exp.{Exp, fold-Exp}
use Rattle.po_tree.specs.declared.expression.Exp.TheVariants as e
use Rattle.po_tree.specs.declared.expression.Exp.TheOpen.{Exp-F, Specifier-F, Suffix-F, Declarator-F, Member-F, Param-F, TypeName-F}
use Rattle.po_tree.specs.declared.expression.Specifier.{Specifier, fold-Specifier}
use Rattle.po_tree.specs.declared.expression.Specifier.TheVariants as sp
use Rattle.po_tree.specs.declared.expression.Suffix.{Suffix}
use Rattle.po_tree.specs.declared.expression.Suffix.TheVariants as su
use Rattle.po_tree.specs.declared.expression.Declarator.{Declarator, fold-Declarator}
use Rattle.po_tree.specs.declared.expression.Member.{Member, roll-Member}
use Rattle.po_tree.specs.declared.expression.Param.{Param, roll-Param}
use Rattle.po_tree.specs.declared.expression.TypeName.{TypeName}
use Rattle.po_tree.specs.declared.declaration.Init.{Init, fold-Init}
use Rattle.po_tree.specs.declared.declaration.Init.TheOpen.{Init-F}
use Rattle.po_tree.specs.declared.declaration.Decl.{Decl}
use Rattle.po_tree.specs.declared.statement.First.{First}
use Rattle.po_tree.specs.declared.statement.First.TheVariants as f
use Rattle.po_tree.specs.declared.statement.Stmt.{Stmt, fold-Stmt}
use Rattle.po_tree.specs.declared.statement.Stmt.TheOpen.{Stmt-F}
use Rattle.po_tree.specs.declared.function.FunTree.{FunTree}

-- a part of a tree, with its expressions in their order
abbrev pub Ordered : Type 0 → Type 0
Ordered A = A × List Exp

abbrev pub trees : {A : Type 0} → List (Ordered A) → List A
trees xs = map (λ x. x.0) xs

abbrev pub all_within : {A : Type 0} → List (Ordered A) → List Exp
all_within xs = flat_map (λ x. x.1) xs

abbrev pub tree_of : {A : Type 0} → Option (Ordered A) → Option A
tree_of None = None
tree_of (Some x) = Some x.0

abbrev pub within : {A : Type 0} → Option (Ordered A) → List Exp
within None = []
within (Some x) = x.1

-- an expression whose head stands before its parts, between them, or behind them
abbrev pub head_first : Exp → List Exp → Ordered Exp
head_first x inner = (x, x ∷ inner)

abbrev pub head_between : List Exp → Exp → List Exp → Ordered Exp
head_between left x right = (x, left ++ (x ∷ right))

abbrev pub orders_exp : Exp-F (Ordered Exp) (Ordered Specifier) (Ordered Suffix) (Ordered Declarator) (Ordered Member) (Ordered Param) (Ordered TypeName) → Ordered Exp
orders_exp (Exp-F.Var name) = head_first (e.Var name) []
orders_exp (Exp-F.Num text) = head_first (e.Num text) []
orders_exp (Exp-F.Chr text) = head_first (e.Chr text) []
orders_exp (Exp-F.Str texts) = head_first (e.Str texts) []
orders_exp (Exp-F.Paren x) = head_first (e.Paren x.0) x.1
orders_exp (Exp-F.Index x y) = head_between x.1 (e.Index x.0 y.0) y.1
orders_exp (Exp-F.Call x xs) = head_between x.1 (e.Call x.0 (trees xs)) (all_within xs)
orders_exp (Exp-F.Dot x name) = head_between x.1 (e.Dot x.0 name) []
orders_exp (Exp-F.Arrow x name) = head_between x.1 (e.Arrow x.0 name) []
orders_exp (Exp-F.PostInc x) = head_between x.1 (e.PostInc x.0) []
orders_exp (Exp-F.PostDec x) = head_between x.1 (e.PostDec x.0) []
orders_exp (Exp-F.PreInc x) = head_first (e.PreInc x.0) x.1
orders_exp (Exp-F.PreDec x) = head_first (e.PreDec x.0) x.1
orders_exp (Exp-F.Addr x) = head_first (e.Addr x.0) x.1
orders_exp (Exp-F.Deref x) = head_first (e.Deref x.0) x.1
orders_exp (Exp-F.Plus x) = head_first (e.Plus x.0) x.1
orders_exp (Exp-F.Minus x) = head_first (e.Minus x.0) x.1
orders_exp (Exp-F.Compl x) = head_first (e.Compl x.0) x.1
orders_exp (Exp-F.Not x) = head_first (e.Not x.0) x.1
orders_exp (Exp-F.SizeExp x) = head_first (e.SizeExp x.0) x.1
orders_exp (Exp-F.SizeType t) = head_first (e.SizeType t.0) t.1
orders_exp (Exp-F.Cast t x) = head_first (e.Cast t.0 x.0) (t.1 ++ x.1)
orders_exp (Exp-F.Binary o x y) = head_between x.1 (e.Binary o x.0 y.0) y.1
orders_exp (Exp-F.LogAnd x y) = head_between x.1 (e.LogAnd x.0 y.0) y.1
orders_exp (Exp-F.LogOr x y) = head_between x.1 (e.LogOr x.0 y.0) y.1
orders_exp (Exp-F.Cond x y z) = head_between x.1 (e.Cond x.0 y.0 z.0) (y.1 ++ z.1)
orders_exp (Exp-F.Assign o x y) = head_between x.1 (e.Assign o x.0 y.0) y.1
orders_exp (Exp-F.Comma x y) = head_between x.1 (e.Comma x.0 y.0) y.1

abbrev pub item_tree : (List ℕ × Option (Ordered Exp)) → (List ℕ × Option Exp)
item_tree (name, value) = (name, tree_of value)

abbrev pub item_within : (List ℕ × Option (Ordered Exp)) → List Exp
item_within (name, value) = within value

abbrev pub orders_specifier : Specifier-F (Ordered Exp) (Ordered Specifier) (Ordered Suffix) (Ordered Declarator) (Ordered Member) (Ordered Param) (Ordered TypeName) → Ordered Specifier
orders_specifier (Specifier-F.Word text) = (sp.Word text, [])
orders_specifier (Specifier-F.Named name) = (sp.Named name, [])
orders_specifier (Specifier-F.Struct tag None) = (sp.Struct tag None, [])
orders_specifier (Specifier-F.Struct tag (Some ms)) = (sp.Struct tag (Some (trees ms)), all_within ms)
orders_specifier (Specifier-F.Enum tag None more) = (sp.Enum tag None more, [])
orders_specifier (Specifier-F.Enum tag (Some xs) more) = (sp.Enum tag (Some (map item_tree xs)) more, flat_map item_within xs)

abbrev pub orders_suffix : Suffix-F (Ordered Exp) (Ordered Specifier) (Ordered Suffix) (Ordered Declarator) (Ordered Member) (Ordered Param) (Ordered TypeName) → Ordered Suffix
orders_suffix Suffix-F.Plain = (su.Plain, [])
orders_suffix (Suffix-F.Arrays sizes) = (su.Arrays (map tree_of sizes), flat_map within sizes)
orders_suffix (Suffix-F.Params params more) = (su.Params (trees params) more, all_within params)

abbrev pub orders_declarator : Declarator-F (Ordered Exp) (Ordered Specifier) (Ordered Suffix) (Ordered Declarator) (Ordered Member) (Ordered Param) (Ordered TypeName) → Ordered Declarator
orders_declarator d = (record { stars = d.stars; name = d.name; suffix = d.suffix.0 }, d.suffix.1)

abbrev pub orders_member : Member-F (Ordered Exp) (Ordered Specifier) (Ordered Suffix) (Ordered Declarator) (Ordered Member) (Ordered Param) (Ordered TypeName) → Ordered Member
orders_member m = (roll-Member (record { specs = trees m.specs; declarators = trees m.declarators }), all_within m.specs ++ all_within m.declarators)

abbrev pub orders_param : Param-F (Ordered Exp) (Ordered Specifier) (Ordered Suffix) (Ordered Declarator) (Ordered Member) (Ordered Param) (Ordered TypeName) → Ordered Param
orders_param x = (roll-Param (record { specs = trees x.specs; declarator = x.declarator.0 }), all_within x.specs ++ x.declarator.1)

abbrev pub orders_type : TypeName-F (Ordered Exp) (Ordered Specifier) (Ordered Suffix) (Ordered Declarator) (Ordered Member) (Ordered Param) (Ordered TypeName) → Ordered TypeName
orders_type t = (record { specs = trees t.specs; declarator = t.declarator.0 }, all_within t.specs ++ t.declarator.1)

-- the expressions of an expression, itself among them
unfoldable pub expressions : Exp → List Exp
expressions x = (fold-Exp _ _ _ _ _ _ _ orders_exp orders_specifier orders_suffix orders_declarator orders_member orders_param orders_type x).1

unfoldable pub specifier_expressions : Specifier → List Exp
specifier_expressions x = (fold-Specifier _ _ _ _ _ _ _ orders_exp orders_specifier orders_suffix orders_declarator orders_member orders_param orders_type x).1

unfoldable pub declarator_expressions : Declarator → List Exp
declarator_expressions x = (fold-Declarator _ _ _ _ _ _ _ orders_exp orders_specifier orders_suffix orders_declarator orders_member orders_param orders_type x).1

abbrev pub some_expressions : {A : Type 0} → (A → List Exp) → Option A → List Exp
some_expressions f None = []
some_expressions f (Some x) = f x

abbrev pub orders_init : Init-F (List Exp) → List Exp
orders_init (Init-F.One x) = expressions x
orders_init (Init-F.Many xs more) = flat_map (λ x. x) xs

unfoldable pub init_expressions : Init → List Exp
init_expressions = fold-Init _ orders_init

abbrev pub part_expressions : (Declarator × Option Init) → List Exp
part_expressions (d, x) = declarator_expressions d ++ some_expressions init_expressions x

abbrev pub decl_expressions : Decl → List Exp
decl_expressions d = flat_map specifier_expressions d.specs ++ flat_map part_expressions d.parts

abbrev pub first_expressions : First → List Exp
first_expressions f.Nothing = []
first_expressions (f.Value x) = expressions x
first_expressions (f.Variables d) = decl_expressions d

abbrev pub orders_stmt : Stmt-F (List Exp) → List Exp
orders_stmt (Stmt-F.Block xs) = flat_map (λ x. x) xs
orders_stmt (Stmt-F.Declare d) = decl_expressions d
orders_stmt (Stmt-F.ExpS x) = expressions x
orders_stmt (Stmt-F.If x then_ else_) = expressions x ++ (then_ ++ some_expressions (λ y. y) else_)
orders_stmt (Stmt-F.While x body) = expressions x ++ body
orders_stmt (Stmt-F.Do body x) = body ++ expressions x
orders_stmt (Stmt-F.For first test step body) =
    first_expressions first ++ (some_expressions expressions test ++ (some_expressions expressions step ++ body))
orders_stmt (Stmt-F.Switch x body) = expressions x ++ body
orders_stmt (Stmt-F.Case x body) = expressions x ++ body
orders_stmt (Stmt-F.Default body) = body
orders_stmt (Stmt-F.Label name body) = body
orders_stmt (Stmt-F.Return x) = some_expressions expressions x
orders_stmt _ = []

unfoldable pub stmt_expressions : Stmt → List Exp
stmt_expressions = fold-Stmt _ orders_stmt

-- the expressions of a definition
abbrev pub fun_expressions : FunTree → List Exp
fun_expressions g = flat_map specifier_expressions g.specs ++ (declarator_expressions g.declarator ++ flat_map stmt_expressions g.body)
