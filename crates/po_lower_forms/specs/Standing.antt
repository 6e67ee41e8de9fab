-- What typing says of the expression at a place, as the code is told it.
use Rattle.std.specs.Prelude.{ℕ, ◌≡◌, List}
use Rattle.po_base.specs.declared.spot.Spot.{Spot}
use Rattle.po_ir.specs.declared.instr.Ty.{Ty}
use Rattle.po_tree.specs.declared.expression.Exp.{Exp}
use Rattle.po_types.specs.declared.ctype.CType.{CType}
use Rattle.po_lowering.specs.declared.var.Var.{Var}
use Rattle.po_lowering.specs.declared.var.Var.TheVariants as var
use Rattle.po_lowering.specs.Places.{Place, behind}
use Rattle.po_lowering.specs.Typed.{Typed, type_at, type_of, conversion_of, spot_at}
use Rattle.po_lowering.specs.Types.{register_type}
use Rattle.po_lowering.specs.Naming.{Scope, variable, named}

-- the name at a place names this variable
pub record NamesVariable (f : Typed) (c : Scope) (name : List ℕ) (p : Place) (v : Var) (spot : Spot) : Type 0 where
  pub names : named f c name p ≡ variable v
  pub has_spot : spot ≡ spot_at f p

-- a variable that has an address
abbrev pub IsKeptInMemory : Var → Type 0
IsKeptInMemory (var.Reg r) = ⊥
IsKeptInMemory (var.Slot k) = Unit {0}
IsKeptInMemory (var.Global g) = Unit {0}

-- an object of this type, which is converted to this other type while it is stepped by an operator at h
pub record IsStepped (f : Typed) (y : Exp) (p h : Place) (t conversion : CType) (spot : Spot) : Type 0 where
  pub has_type : t ≡ type_of f y p
  pub has_conversion : conversion ≡ conversion_of f y p
  pub has_spot : spot ≡ spot_at f h

-- a value that a condition by `&&` or `||` makes behind its left operand, with a temporary of this type
pub record IsChosen (f : Typed) (y : Exp) (p : Place) (held : Ty) (spot : Spot) : Type 0 where
  pub is_held : held ≡ register_type (type_at f (behind y p))
  pub has_spot : spot ≡ spot_at f (behind y p)
