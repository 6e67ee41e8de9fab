-- What `? :` makes of a pointer beside another operand (C99 6.5.15p6).
use Rattle.std.specs.Prelude.{◌≡◌, ◌⊎◌}
use Rattle.po_tree.specs.declared.expression.Exp.{Exp, out-Exp}
use Rattle.po_types.specs.declared.ctype.CType.{CType}
use Rattle.po_types.specs.declared.ctype.CType.TheVariants as c
use Rattle.po_typed.specs.Scopes.{Context}
use Rattle.po_typed.specs.Expressions.{IsNull, IsNullPointer}

-- beside a number that is the constant 0: the pointer
abbrev pub BesideZero : Context → Exp → CType → CType → Type 0
BesideZero ctx x to r = IsNull ctx (out-Exp x) × (r ≡ c.Ptr to)

-- beside a pointer to void: the pointer where that is `(void*)0`, else the pointer to void
abbrev pub BesideVoid : Context → Exp → CType → CType → Type 0
BesideVoid ctx x to r = (IsNullPointer ctx (out-Exp x) × (r ≡ c.Ptr to)) ⊎ ((IsNullPointer ctx (out-Exp x) → ⊥) × (r ≡ c.Ptr c.Void))
