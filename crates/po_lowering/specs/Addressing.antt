-- Whether `&` is applied to a variable, in parentheses or not; inside sizeof and where nothing comes to it, too.
use Rattle.std.specs.Prelude.{ℕ, List, map, Option, Some, None, Bool, false, ◌||◌}
use Rattle.po_tree.specs.declared.expression.Exp.{Exp, fold-Exp}
use Rattle.po_tree.specs.declared.expression.Exp.TheOpen.{Exp-F, Specifier-F, Suffix-F, Declarator-F, Member-F, Param-F, TypeName-F}
use Rattle.po_tree.specs.declared.expression.Specifier.{Specifier, fold-Specifier}
use Rattle.po_tree.specs.declared.expression.Declarator.{Declarator, fold-Declarator}
use Rattle.po_tree.specs.declared.declaration.Init.{Init, fold-Init}
use Rattle.po_tree.specs.declared.declaration.Init.TheOpen.{Init-F}
use Rattle.po_lowering.specs.Naming.{Use, any_of, any_does, does_so, holds_of, is_same}

abbrev pub if_there : Option Use → Bool
if_there None = false
if_there (Some x) = x.does

abbrev pub item_does : (List ℕ × Option Use) → Bool
item_does (name, value) = if_there value

abbrev pub addressing_exp : List ℕ → Exp-F Use Bool Bool Bool Bool Bool Bool → Use
addressing_exp v (Exp-F.Var name) = record { is = Some name; does = false }
addressing_exp v (Exp-F.Num text) = does_so false
addressing_exp v (Exp-F.Chr text) = does_so false
addressing_exp v (Exp-F.Str texts) = does_so false
addressing_exp v (Exp-F.Paren x) = x
addressing_exp v (Exp-F.Index x y) = does_so (x.does || y.does)
addressing_exp v (Exp-F.Call x xs) = does_so (x.does || any_does xs)
addressing_exp v (Exp-F.Dot x name) = does_so x.does
addressing_exp v (Exp-F.Arrow x name) = does_so x.does
addressing_exp v (Exp-F.PostInc x) = does_so x.does
addressing_exp v (Exp-F.PostDec x) = does_so x.does
addressing_exp v (Exp-F.PreInc x) = does_so x.does
addressing_exp v (Exp-F.PreDec x) = does_so x.does
addressing_exp v (Exp-F.Addr x) = does_so (holds_of (is_same v) x.is || x.does)
addressing_exp v (Exp-F.Deref x) = does_so x.does
addressing_exp v (Exp-F.Plus x) = does_so x.does
addressing_exp v (Exp-F.Minus x) = does_so x.does
addressing_exp v (Exp-F.Compl x) = does_so x.does
addressing_exp v (Exp-F.Not x) = does_so x.does
addressing_exp v (Exp-F.SizeExp x) = does_so x.does
addressing_exp v (Exp-F.SizeType t) = does_so t
addressing_exp v (Exp-F.Cast t x) = does_so (t || x.does)
addressing_exp v (Exp-F.Binary op x y) = does_so (x.does || y.does)
addressing_exp v (Exp-F.LogAnd x y) = does_so (x.does || y.does)
addressing_exp v (Exp-F.LogOr x y) = does_so (x.does || y.does)
addressing_exp v (Exp-F.Cond x y z) = does_so (x.does || (y.does || z.does))
addressing_exp v (Exp-F.Assign op x y) = does_so (x.does || y.does)
addressing_exp v (Exp-F.Comma x y) = does_so (x.does || y.does)

abbrev pub addressing_specifier : Specifier-F Use Bool Bool Bool Bool Bool Bool → Bool
addressing_specifier (Specifier-F.Word text) = false
addressing_specifier (Specifier-F.Named name) = false
addressing_specifier (Specifier-F.Struct tag None) = false
addressing_specifier (Specifier-F.Struct tag (Some ms)) = any_of ms
addressing_specifier (Specifier-F.Enum tag None more) = false
addressing_specifier (Specifier-F.Enum tag (Some xs) more) = any_of (map item_does xs)

abbrev pub addressing_suffix : Suffix-F Use Bool Bool Bool Bool Bool Bool → Bool
addressing_suffix Suffix-F.Plain = false
addressing_suffix (Suffix-F.Arrays sizes) = any_of (map if_there sizes)
addressing_suffix (Suffix-F.Params params more) = any_of params

abbrev pub addressing_declarator : Declarator-F Use Bool Bool Bool Bool Bool Bool → Bool
addressing_declarator d = d.suffix

abbrev pub addressing_member : Member-F Use Bool Bool Bool Bool Bool Bool → Bool
addressing_member m = any_of m.specs || any_of m.declarators

abbrev pub addressing_param : Param-F Use Bool Bool Bool Bool Bool Bool → Bool
addressing_param x = any_of x.specs || x.declarator

abbrev pub addressing_type : TypeName-F Use Bool Bool Bool Bool Bool Bool → Bool
addressing_type t = any_of t.specs || t.declarator

-- whether `&` is applied to a variable of this name
unfoldable pub addressed_in : List ℕ → Exp → Bool
addressed_in v x = (fold-Exp Use Bool Bool Bool Bool Bool Bool (addressing_exp v) addressing_specifier addressing_suffix addressing_declarator addressing_member addressing_param addressing_type x).does

unfoldable pub addressed_in_specifier : List ℕ → Specifier → Bool
addressed_in_specifier v = fold-Specifier Use Bool Bool Bool Bool Bool Bool (addressing_exp v) addressing_specifier addressing_suffix addressing_declarator addressing_member addressing_param addressing_type

unfoldable pub addressed_in_declarator : List ℕ → Declarator → Bool
addressed_in_declarator v = fold-Declarator Use Bool Bool Bool Bool Bool Bool (addressing_exp v) addressing_specifier addressing_suffix addressing_declarator addressing_member addressing_param addressing_type

abbrev pub addressing_init : List ℕ → Init-F Bool → Bool
addressing_init v (Init-F.One x) = addressed_in v x
addressing_init v (Init-F.Many xs more) = any_of xs

unfoldable pub addressed_in_init : List ℕ → Init → Bool
addressed_in_init v = fold-Init Bool (addressing_init v)

abbrev pub addressed_if_there : {A : Type 0} → (A → Bool) → Option A → Bool
addressed_if_there f None = false
addressed_if_there f (Some x) = f x
