-- What names name: scopes, and which variables an expression assigns or applies `&` to.
use Rattle.std.specs.Prelude.{ℕ, nat_eq, ℤ, List, [], ◌∷◌, map, Option, Some, None, Bool, false, cond, ◌||◌}
use Rattle.std.specs.Cmp.Lexicographic.{pointwise}
use Rattle.po_base.specs.declared.operand.Opnd.{Opnd}
use Rattle.po_base.specs.declared.operand.Opnd.TheVariants as o
use Rattle.po_tree.specs.declared.expression.Exp.{Exp, fold-Exp}
use Rattle.po_tree.specs.declared.expression.Exp.TheOpen.{Exp-F}
use Rattle.po_lowering.specs.declared.var.Var.{Var}
use Rattle.po_lowering.specs.declared.var.Var.TheVariants as var
use Rattle.po_lowering.specs.Places.{Place}
use Rattle.po_lowering.specs.Typed.{Typed}

-- the variables of a function that are in scope, the last entry of a name being the one that counts
abbrev pub Scope : Type 0
Scope = List (List ℕ × Var)

abbrev pub is_same : List ℕ → List ℕ → Bool
is_same name other = pointwise nat_eq name other

abbrev pub either : Option Var → Option Var → Option Var
either None v = v
either (Some w) v = Some w

abbrev pub found : List ℕ → Scope → Option Var
found name [] = None
found name ((other, v) ∷ rest) = either (found name rest) (cond (is_same name other) (Some v) None)

-- what a name in an expression names: a variable, or the number that an enumerator is
pub data Named : Type 0 where
  variable : Var → Named
  enumerator : ℤ → Named
  unknown : Named

abbrev pub object_named : Option ℕ → Named
object_named None = unknown
object_named (Some g) = variable (var.Global (record { 0 = g }))

abbrev pub outside : Option ℤ → Option ℕ → Named
outside None global = object_named global
outside (Some n) global = enumerator n

abbrev pub inside : Option Var → Named → Named
inside None rest = rest
inside (Some v) rest = variable v

abbrev pub named : Typed → Scope → List ℕ → Place → Named
named f scope name p = inside (found name scope) (outside (f.constants p.number) (f.global name))

-- the variable that an expression is, in parentheses or not, and whether something is done to a variable in it
pub record Use : Type 0 where
  pub is : Option (List ℕ)
  pub does : Bool

abbrev pub any_of : List Bool → Bool
any_of [] = false
any_of (b ∷ bs) = b || any_of bs

abbrev pub any_does : List Use → Bool
any_does xs = any_of (map (λ (x : Use). x.does) xs)

abbrev pub does_so : Bool → Use
does_so b = record { is = None; does = b }

abbrev pub holds_of : (List ℕ → Bool) → Option (List ℕ) → Bool
holds_of is_one None = false
holds_of is_one (Some name) = is_one name

-- Whether an assignment, `++` or `--` of such a variable stands anywhere in an expression, but for what stands inside a sizeof.
abbrev pub assigning : (List ℕ → Bool) → Exp-F Use Bool Bool Bool Bool Bool Bool → Use
assigning is_one (Exp-F.Var name) = record { is = Some name; does = false }
assigning is_one (Exp-F.Num text) = does_so false
assigning is_one (Exp-F.Chr text) = does_so false
assigning is_one (Exp-F.Str texts) = does_so false
assigning is_one (Exp-F.Paren x) = x
assigning is_one (Exp-F.Index x y) = does_so (x.does || y.does)
assigning is_one (Exp-F.Call x xs) = does_so (any_does xs)
assigning is_one (Exp-F.Dot x name) = does_so x.does
assigning is_one (Exp-F.Arrow x name) = does_so x.does
assigning is_one (Exp-F.PostInc x) = does_so (holds_of is_one x.is || x.does)
assigning is_one (Exp-F.PostDec x) = does_so (holds_of is_one x.is || x.does)
assigning is_one (Exp-F.PreInc x) = does_so (holds_of is_one x.is || x.does)
assigning is_one (Exp-F.PreDec x) = does_so (holds_of is_one x.is || x.does)
assigning is_one (Exp-F.Addr x) = does_so x.does
assigning is_one (Exp-F.Deref x) = does_so x.does
assigning is_one (Exp-F.Plus x) = does_so x.does
assigning is_one (Exp-F.Minus x) = does_so x.does
assigning is_one (Exp-F.Compl x) = does_so x.does
assigning is_one (Exp-F.Not x) = does_so x.does
assigning is_one (Exp-F.SizeExp x) = does_so false
assigning is_one (Exp-F.SizeType t) = does_so false
assigning is_one (Exp-F.Cast t x) = does_so x.does
assigning is_one (Exp-F.Binary op x y) = does_so (x.does || y.does)
assigning is_one (Exp-F.LogAnd x y) = does_so (x.does || y.does)
assigning is_one (Exp-F.LogOr x y) = does_so (x.does || y.does)
assigning is_one (Exp-F.Cond x y z) = does_so (x.does || (y.does || z.does))
assigning is_one (Exp-F.Assign op x y) = does_so (holds_of is_one x.is || (x.does || y.does))
assigning is_one (Exp-F.Comma x y) = does_so (x.does || y.does)

unfoldable pub assigned : (List ℕ → Bool) → Exp → Use
assigned is_one = fold-Exp Use Bool Bool Bool Bool Bool Bool (assigning is_one) (λ _. false) (λ _. false) (λ _. false) (λ _. false) (λ _. false) (λ _. false)

-- the name that an expression is, in parentheses or not
abbrev pub name_of : Exp → Option (List ℕ)
name_of x = (assigned (λ name. false) x).is

abbrev pub is_register : ℕ → Option Var → Bool
is_register r None = false
is_register r (Some (var.Reg q)) = nat_eq r q.0
is_register r (Some (var.Slot k)) = false
is_register r (Some (var.Global g)) = false

-- whether one of the expressions assigns the variable that is the register
abbrev pub assigns : Scope → ℕ → List Exp → Bool
assigns scope r xs = any_of (map (λ x. (assigned (λ name. is_register r (found name scope)) x).does) xs)

-- whether one of the expressions assigns the variable that is the operand
abbrev pub changes : Scope → Opnd → List Exp → Bool
changes scope (o.Num n) xs = false
changes scope (o.Reg r) xs = assigns scope r.0 xs

abbrev pub as_register : Option Var → Option ℕ
as_register None = None
as_register (Some (var.Reg r)) = Some r.0
as_register (Some (var.Slot k)) = None
as_register (Some (var.Global g)) = None

abbrev pub register_named : Scope → Option (List ℕ) → Option ℕ
register_named scope None = None
register_named scope (Some name) = as_register (found name scope)

-- the register of the parameter or register variable that an expression is, in parentheses or not
abbrev pub register_of : Scope → Exp → Option ℕ
register_of scope x = register_named scope (name_of x)
