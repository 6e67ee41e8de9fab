-- What is inside a tree. Its parts are what its production in the grammar puts together (C99 6.5 to 6.9), but for words and operators; what is
-- inside a part is inside the whole.
use Rattle.std.specs.Prelude.{List, [], ◌∷◌, ◌++◌, map, flat_map, Option, Some, None, Contains}
use Rattle.po_tree.specs.declared.expression.Exp.{Exp, out-Exp}
use Rattle.po_tree.specs.declared.expression.Exp.TheOpen.{Exp-F, Specifier-F, Suffix-F, Member-F, Param-F}
use Rattle.po_tree.specs.declared.expression.TypeName.{TypeName}
use Rattle.po_tree.specs.declared.expression.Specifier.{Specifier, out-Specifier}
use Rattle.po_tree.specs.declared.expression.Declarator.{Declarator}
use Rattle.po_tree.specs.declared.expression.Suffix.{Suffix, out-Suffix}
use Rattle.po_tree.specs.declared.expression.Member.{Member, out-Member}
use Rattle.po_tree.specs.declared.expression.Param.{Param, out-Param}
use Rattle.po_tree.specs.declared.declaration.Init.{Init, out-Init}
use Rattle.po_tree.specs.declared.declaration.Init.TheOpen.{Init-F}
use Rattle.po_tree.specs.declared.declaration.Decl.{Decl}
use Rattle.po_tree.specs.declared.statement.First.{First}
use Rattle.po_tree.specs.declared.statement.First.TheVariants as first
use Rattle.po_tree.specs.declared.statement.Stmt.{Stmt, out-Stmt}
use Rattle.po_tree.specs.declared.statement.Stmt.TheOpen.{Stmt-F}
use Rattle.po_tree.specs.declared.function.FunTree.{FunTree}
use Rattle.po_heads.specs.Heads.{Layer}

-- a tree of any kind
pub data Tree : Type 0 where
  expression : Exp → Tree
  type_name : TypeName → Tree
  specifier : Specifier → Tree
  declarator : Declarator → Tree
  suffix : Suffix → Tree
  member : Member → Tree
  parameter : Param → Tree
  initialiser : Init → Tree
  declaration : Decl → Tree
  statement : Stmt → Tree
  definition : FunTree → Tree

-- a part that may be missing
abbrev pub any : {A : Type 0} → (A → Tree) → Option A → List Tree
any f None = []
any f (Some x) = f x ∷ []

abbrev pub parts_exp : Layer → List Tree
parts_exp (Exp-F.Var name) = []
parts_exp (Exp-F.Num text) = []
parts_exp (Exp-F.Chr text) = []
parts_exp (Exp-F.Str texts) = []
parts_exp (Exp-F.Paren x) = expression x ∷ []
parts_exp (Exp-F.Index x y) = expression x ∷ expression y ∷ []
parts_exp (Exp-F.Call x xs) = expression x ∷ map expression xs
parts_exp (Exp-F.Dot x name) = expression x ∷ []
parts_exp (Exp-F.Arrow x name) = expression x ∷ []
parts_exp (Exp-F.PostInc x) = expression x ∷ []
parts_exp (Exp-F.PostDec x) = expression x ∷ []
parts_exp (Exp-F.PreInc x) = expression x ∷ []
parts_exp (Exp-F.PreDec x) = expression x ∷ []
parts_exp (Exp-F.Addr x) = expression x ∷ []
parts_exp (Exp-F.Deref x) = expression x ∷ []
parts_exp (Exp-F.Plus x) = expression x ∷ []
parts_exp (Exp-F.Minus x) = expression x ∷ []
parts_exp (Exp-F.Compl x) = expression x ∷ []
parts_exp (Exp-F.Not x) = expression x ∷ []
parts_exp (Exp-F.SizeExp x) = expression x ∷ []
parts_exp (Exp-F.SizeType t) = type_name t ∷ []
parts_exp (Exp-F.Cast t x) = type_name t ∷ expression x ∷ []
parts_exp (Exp-F.Binary o x y) = expression x ∷ expression y ∷ []
parts_exp (Exp-F.LogAnd x y) = expression x ∷ expression y ∷ []
parts_exp (Exp-F.LogOr x y) = expression x ∷ expression y ∷ []
parts_exp (Exp-F.Cond x y z) = expression x ∷ expression y ∷ expression z ∷ []
parts_exp (Exp-F.Assign o x y) = expression x ∷ expression y ∷ []
parts_exp (Exp-F.Comma x y) = expression x ∷ expression y ∷ []

abbrev pub parts_specifier : Specifier-F Exp Specifier Suffix Declarator Member Param TypeName → List Tree
parts_specifier (Specifier-F.Struct tag (Some ms)) = map member ms
parts_specifier (Specifier-F.Enum tag (Some items) more) = flat_map (λ item. any expression item.1) items
parts_specifier _ = []

abbrev pub parts_suffix : Suffix-F Exp Specifier Suffix Declarator Member Param TypeName → List Tree
parts_suffix Suffix-F.Plain = []
parts_suffix (Suffix-F.Arrays sizes) = flat_map (any expression) sizes
parts_suffix (Suffix-F.Params params more) = map parameter params

abbrev pub parts_member : Member-F Exp Specifier Suffix Declarator Member Param TypeName → List Tree
parts_member m = map specifier m.specs ++ map declarator m.declarators

abbrev pub parts_param : Param-F Exp Specifier Suffix Declarator Member Param TypeName → List Tree
parts_param p = map specifier p.specs ++ declarator p.declarator ∷ []

abbrev pub parts_init : Init-F Init → List Tree
parts_init (Init-F.One x) = expression x ∷ []
parts_init (Init-F.Many xs more) = map initialiser xs

abbrev pub parts_first : First → List Tree
parts_first first.Nothing = []
parts_first (first.Value x) = expression x ∷ []
parts_first (first.Variables d) = declaration d ∷ []

abbrev pub parts_stmt : Stmt-F Stmt → List Tree
parts_stmt (Stmt-F.Block xs) = map statement xs
parts_stmt (Stmt-F.Declare d) = declaration d ∷ []
parts_stmt (Stmt-F.ExpS x) = expression x ∷ []
parts_stmt (Stmt-F.If x then_ else_) = expression x ∷ statement then_ ∷ any statement else_
parts_stmt (Stmt-F.While x body) = expression x ∷ statement body ∷ []
parts_stmt (Stmt-F.Do body x) = statement body ∷ expression x ∷ []
parts_stmt (Stmt-F.For first test step body) = parts_first first ++ (any expression test ++ (any expression step ++ statement body ∷ []))
parts_stmt (Stmt-F.Switch x body) = expression x ∷ statement body ∷ []
parts_stmt (Stmt-F.Case x body) = expression x ∷ statement body ∷ []
parts_stmt (Stmt-F.Default body) = statement body ∷ []
parts_stmt (Stmt-F.Label name body) = statement body ∷ []
parts_stmt (Stmt-F.Return x) = any expression x
parts_stmt _ = []

-- what a tree puts together
abbrev pub parts : Tree → List Tree
parts (expression x) = parts_exp (out-Exp x)
parts (type_name t) = map specifier t.specs ++ declarator t.declarator ∷ []
parts (specifier x) = parts_specifier (out-Specifier x)
parts (declarator d) = suffix d.suffix ∷ []
parts (suffix x) = parts_suffix (out-Suffix x)
parts (member m) = parts_member (out-Member m)
parts (parameter p) = parts_param (out-Param p)
parts (initialiser x) = parts_init (out-Init x)
parts (declaration d) = map specifier d.specs ++ flat_map (λ part. declarator part.0 ∷ any initialiser part.1) d.parts
parts (statement x) = parts_stmt (out-Stmt x)
parts (definition g) = map specifier g.specs ++ (declarator g.declarator ∷ map statement g.body)

-- an expression is inside itself, and inside each tree that has it inside a part
pub data IsInside (x : Exp) : Tree → Type 0 where
  itself : IsInside x (expression x)
  in_part : (part whole : Tree) → Contains (parts whole) part → IsInside x part → IsInside x whole
