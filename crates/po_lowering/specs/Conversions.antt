-- Which nodes convert a value (C99 6.3), and which one combines two (6.5.2.1, 6.5.5 to 6.5.14).
use Rattle.std.specs.Prelude.{ℕ, ◌+◌, ◌≡◌, ◌==◌, nat_lt, ℤ, pos, neg_ℤ, List, Bool, true, false, cond, ◌||◌}
use Rattle.po_base.specs.declared.operators.Op.{Op}
use Rattle.po_base.specs.declared.operators.Op.TheVariants as op
use Rattle.po_base.specs.declared.operand.Opnd.{Opnd}
use Rattle.po_base.specs.declared.operand.Opnd.TheVariants as o
use Rattle.po_base.specs.declared.spot.Spot.{Spot}
use Rattle.po_arith.specs.declared.int_type.IntType.{IntType}
use Rattle.po_ir.specs.declared.instr.Ty.{Ty}
use Rattle.po_ir.specs.declared.instr.Ty.TheVariants.{Int, Ptr}
use Rattle.po_ir.specs.declared.instr.Instr.{Instr}
use Rattle.po_ir.specs.declared.instr.Instr.TheVariants as ins
use Rattle.po_ir.specs.declared.graph.Node.{Node}
use Rattle.po_types.specs.declared.ctype.CType.{CType, out-CType}
use Rattle.po_types.specs.declared.ctype.CType.TheOpen.{CType-F}
use Rattle.po_lowering.specs.Typed.{Typed}
use Rattle.po_lowering.specs.Types.{register_type, is_kept, fits, is_address, is_struct, referenced, access_of}
use Rattle.po_lowering.specs.Temporaries.{State, At, Takes, reg, register}
use Rattle.po_types.specs.Integers.{promoted}

-- what a conversion does: nothing, a comparison with 0, or a Conv at an alignment
pub data Change : Type 0 where
  nothing : Change
  comparison : Ty → Change
  conversion : Ty → ℕ → Change

abbrev pub number_fits : IntType → Opnd → Bool
number_fits t (o.Num n) = fits t n
number_fits t (o.Reg r) = false

-- none where every value of the source type is kept, or a number fits; to _Bool a comparison with 0 (6.3.1.2, 6.3.1.3)
abbrev pub to_integer : IntType → IntType → Opnd → Change
to_integer s t v = cond (is_kept s t || number_fits t v) nothing (cond (t.bits == 1) (comparison (Int s)) (conversion (Int t) 1))

-- a pointer becomes an integer only where that is _Bool; the null pointer is kept
abbrev pub to_bool : IntType → Opnd → Change
to_bool t v = cond (number_fits t v) nothing (comparison Ptr)

-- a Conv where what the target points to has the greater alignment (6.3.2.3p7)
abbrev pub to_pointer : Typed → CType → CType → Change
to_pointer f s t = cond (nat_lt (f.align s) (f.align t)) (conversion Ptr (f.align t)) nothing

abbrev pub change_between : Typed → CType-F CType → CType-F CType → Opnd → Change
change_between f (CType-F.Int s) (CType-F.Int t) v = to_integer s t v
change_between f (CType-F.Ptr s) (CType-F.Int t) v = to_bool t v
change_between f (CType-F.Array s n) (CType-F.Int t) v = to_bool t v
change_between f (CType-F.Ptr s) (CType-F.Ptr t) v = to_pointer f s t
change_between f (CType-F.Array s n) (CType-F.Ptr t) v = to_pointer f s t
change_between f _ _ v = nothing

unfoldable pub change : Typed → CType → CType → Opnd → Change
change f from to v = change_between f (out-CType from) (out-CType to) v

-- Converts f ns s a spot from to v w b t: the nodes from a to b convert v from one type to another, and w is the result
pub data Converts (f : Typed) (ns : List Node) : State → ℕ → Spot → CType → CType → Opnd → Opnd → ℕ → State → Type 0 where
  unchanged : (s : State) (a : ℕ) (spot : Spot) (from to : CType) (v : Opnd) → change f from to v ≡ nothing →
      Converts f ns s a spot from to v v a s
  compared : (s t : State) (a : ℕ) (spot : Spot) (from to : CType) (v : Opnd) (ty : Ty) (r : ℕ) → change f from to v ≡ comparison ty →
      Takes (register_type to) s r t → At ns a (ins.Bin (reg r) op.Ne ty v (o.Num (pos 0))) spot →
      Converts f ns s a spot from to v (register r) (a + 1) t
  converted : (s t : State) (a : ℕ) (spot : Spot) (from to : CType) (v : Opnd) (ty : Ty) (align r : ℕ) →
      change f from to v ≡ conversion ty align → Takes (register_type to) s r t → At ns a (ins.Conv (reg r) v ty align) spot →
      Converts f ns s a spot from to v (register r) (a + 1) t

-- the type at which a value is compared with 0: a promoted integer, or a pointer
abbrev pub tested_in : CType-F CType → Ty
tested_in (CType-F.Int t) = Int (promoted t)
tested_in _ = Ptr

unfoldable pub tested : CType → Ty
tested t = tested_in (out-CType t)

-- the element size of a pointer
abbrev pub step_size : Typed → CType → ℤ
step_size f t = pos (f.size (referenced t))

-- operands of these types, the first two Bools, are addresses: `p+i` and `i+p` are a PtrAdd, `p-i` one with a negative factor, `p-q` a PtrDiff
abbrev pub adds : Typed → Bool → Bool → CType → CType → Opnd → Opnd → ℕ → Instr
adds f true second t u v w r = ins.PtrAdd (reg r) v w (step_size f t)
adds f false true t u v w r = ins.PtrAdd (reg r) w v (step_size f u)
adds f false false t u v w r = ins.Bin (reg r) op.Add (register_type t) v w

abbrev pub subtracts : Typed → Bool → Bool → CType → CType → Opnd → Opnd → ℕ → Instr
subtracts f true true t u v w r = ins.PtrDiff (reg r) v w (f.size (referenced t))
subtracts f true false t u v w r = ins.PtrAdd (reg r) v w (neg_ℤ (step_size f t))
subtracts f false second t u v w r = ins.Bin (reg r) op.Sub (register_type t) v w

-- the node of a binary operator over converted operands of these types
unfoldable pub combines : Typed → Op → CType → CType → Opnd → Opnd → ℕ → Instr
combines f op.Add t u v w r = adds f (is_address t) (is_address u) t u v w r
combines f op.Sub t u v w r = subtracts f (is_address t) (is_address u) t u v w r
combines f operator t u v w r = ins.Bin (reg r) operator (register_type t) v w

abbrev pub signed_size : Typed → Op → CType → ℤ
signed_size f op.Sub t = neg_ℤ (step_size f t)
signed_size f operator t = step_size f t

abbrev pub step_of : Typed → Op → Bool → CType → Opnd → ℕ → Instr
step_of f operator true t v r = ins.PtrAdd (reg r) v (o.Num (pos 1)) (signed_size f operator t)
step_of f operator false t v r = ins.Bin (reg r) operator (register_type t) v (o.Num (pos 1))

-- the node of `++` and `--` over a value of the type: 1 is added or subtracted
unfoldable pub steps : Typed → Op → CType → Opnd → ℕ → Instr
steps f operator t v r = step_of f operator (is_address t) t v r

-- a value is written to memory; a struct is copied from its address
unfoldable pub store : Typed → CType → Opnd → Opnd → Instr
store f t to v = cond (is_struct t) (ins.CopyBytes to v (f.size t) (f.align t)) (ins.Store to v (access_of f t))
