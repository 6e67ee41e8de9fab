-- What the graph depends on in a type: how its values are held (C99 6.2.5).
use Rattle.std.specs.Prelude.{ℕ, nat_lt, nat_le, ℤ, int_le, Bool, true, false, ◌&&◌}
use Rattle.po_arith.specs.declared.int_type.IntType.{IntType}
use Rattle.po_arith.specs.Types.{least, greatest}
use Rattle.po_ir.specs.declared.instr.Ty.{Ty}
use Rattle.po_ir.specs.declared.instr.Ty.TheVariants.{Int, Ptr}
use Rattle.po_ir.specs.declared.instr.Access.{Access}
use Rattle.po_types.specs.declared.ctype.CType.{CType, out-CType}
use Rattle.po_types.specs.declared.ctype.CType.TheVariants as c
use Rattle.po_types.specs.declared.ctype.CType.TheOpen.{CType-F}
use Rattle.po_lowering.specs.Typed.{Typed}

-- an integer is held by itself, anything else by an address
abbrev pub held : CType-F CType → Ty
held (CType-F.Int t) = Int t
held _ = Ptr

unfoldable pub register_type : CType → Ty
register_type t = held (out-CType t)

abbrev pub is_scalar_in : CType-F CType → Bool
is_scalar_in (CType-F.Int t) = true
is_scalar_in (CType-F.Ptr t) = true
is_scalar_in _ = false

abbrev pub is_scalar : CType → Bool
is_scalar t = is_scalar_in (out-CType t)

abbrev pub is_void_in : CType-F CType → Bool
is_void_in CType-F.Void = true
is_void_in _ = false

abbrev pub is_void : CType → Bool
is_void t = is_void_in (out-CType t)

abbrev pub is_struct_in : CType-F CType → Bool
is_struct_in (CType-F.Struct n) = true
is_struct_in _ = false

abbrev pub is_struct : CType → Bool
is_struct t = is_struct_in (out-CType t)

-- a pointer, or an array, which becomes one
abbrev pub is_address_in : CType-F CType → Bool
is_address_in (CType-F.Ptr t) = true
is_address_in (CType-F.Array t n) = true
is_address_in _ = false

abbrev pub is_address : CType → Bool
is_address t = is_address_in (out-CType t)

-- what a pointer points to, or an array consists of
abbrev pub referenced_in : CType-F CType → CType
referenced_in (CType-F.Ptr t) = t
referenced_in (CType-F.Array t n) = t
referenced_in _ = c.Void

abbrev pub referenced : CType → CType
referenced t = referenced_in (out-CType t)

abbrev pub is_kept_of : Bool → Bool → ℕ → ℕ → Bool
is_kept_of false false m n = nat_le m n
is_kept_of false true m n = nat_lt m n
is_kept_of true false m n = false
is_kept_of true true m n = nat_le m n

-- every value of the first type is one of the second
abbrev pub is_kept : IntType → IntType → Bool
is_kept s t = is_kept_of s.signed t.signed s.bits t.bits

-- the number is a value of the type
abbrev pub fits : IntType → ℤ → Bool
fits t n = int_le (least t) n && int_le n (greatest t)

-- memory is read and written as values of a type
abbrev pub access_of : Typed → CType → Access
access_of f t = record { ty = register_type t; size = f.size t; align = f.align t }
