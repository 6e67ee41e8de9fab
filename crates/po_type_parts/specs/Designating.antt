-- The types of what subscripts and members designate, and of the function that a call names (C99 6.5.2).
use Rattle.std.specs.Prelude.{ℕ, ◌≡◌, List, [], get_or, Some}
use Rattle.po_arith.specs.declared.int_type.IntType.{IntType}
use Rattle.po_tree.specs.declared.expression.Exp.{Exp, out-Exp}
use Rattle.po_tree.specs.declared.expression.Exp.TheOpen.{Exp-F}
use Rattle.po_types.specs.declared.ctype.CType.{CType}
use Rattle.po_types.specs.declared.ctype.CType.TheVariants as c
use Rattle.po_types.specs.Tables.{found}
use Rattle.po_typed.specs.Scopes.{Context, function, meaning}
use Rattle.po_typed.specs.Operands.{IsComplete}

-- Subscripts ctx u v t: a pointer to a complete object type t and a number, in any order, are the values of types u and v (6.5.2.1p1, p2)
pub data Subscripts (ctx : Context) : CType → CType → CType → Type 0 where
  subscripts_pointer : (t : CType) (s : IntType) → IsComplete ctx t → Subscripts ctx (c.Ptr t) (c.Int s) t
  subscripts_number : (t : CType) (s : IntType) → IsComplete ctx t → Subscripts ctx (c.Int s) (c.Ptr t) t

-- the struct u has a member of this name and type (6.5.2.3p1, p3)
abbrev pub HasMember : Context → CType → List ℕ → CType → Type 0
HasMember ctx u name t = (n : ℕ) × ((u ≡ c.Struct n) × (found (get_or ctx.members n []) name ≡ Some t))

-- so has what the pointer u points to (6.5.2.3p2, p4)
abbrev pub HasArrowMember : Context → CType → List ℕ → CType → Type 0
HasArrowMember ctx u name t = (s : CType) × ((u ≡ c.Ptr s) × HasMember ctx s name t)

-- the expression is the name of a function of this type (6.5.2.2)
abbrev pub IsCallee : Context → Exp → CType → Type 0
IsCallee ctx x t = (name : List ℕ) × ((out-Exp x ≡ Exp-F.Var name) × (meaning ctx name ≡ Some (function t)))
