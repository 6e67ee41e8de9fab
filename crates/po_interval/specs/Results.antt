-- What an operation gives of whole numbers of a type (6.5.3.3, 6.5.5 to 6.5.12, 6.3.1.3): none where the operation isn't allowed to happen.
use Rattle.std.specs.Prelude.{◌-◌, ◌^◌, ◌≡◌, Bool, true, false, cond, not, ◌&&◌, ℤ, pos, neg_ℤ, ◌+ℤ◌, ◌-ℤ◌, ◌*ℤ◌, Option, Some, None, int_le, int_lt, int_div, int_rem}
use Rattle.std.specs.Int.{int_rem_euclid, int_bit_and, int_bit_or, int_bit_xor, w128}
use Rattle.std.specs.Ordering.{int_eq}
use Rattle.po_arith.specs.declared.int_type.IntType.{IntType}
use Rattle.po_arith.specs.declared.interval.Interval.{Interval}
use Rattle.po_arith.specs.Types.{IsIntType, IsOfType, IsWrapped, least, greatest}
use Rattle.po_arith.specs.Hull.{IsIn}
use Rattle.po_base.specs.declared.operators.Op.{Op}
use Rattle.po_base.specs.declared.operators.Op.TheVariants as op
use Rattle.po_base.specs.declared.operators.UnOp.{UnOp}
use Rattle.po_base.specs.declared.operators.UnOp.TheVariants as un
use Rattle.po_arith.specs.Ranges.{shifted_up, shifted_down}
use Rattle.po_interval.specs.Within.{interval_within}
use Rattle.po_interval.specs.Ranges.{Holds, AreWithin, complement_from, takes_count, bin_interval, un_interval, conv_interval}

abbrev pub is_between : ℤ → ℤ → ℤ → Bool
is_between low high v = int_le low v && int_le v high

abbrev pub given : Bool → ℤ → Option ℤ
given allowed v = cond allowed (Some v) None

-- the number modulo 2 to the type's width
abbrev pub modulo : IntType → ℤ → ℤ
modulo t v = int_rem_euclid v (pos (2 ^ t.bits))

-- a conversion to the type: to a signed one where the number fits, to an unsigned one modulo (6.3.1.3, 6.5p5, 6.2.5p9)
abbrev pub conv : IntType → ℤ → Option ℤ
conv t v = cond t.signed (given (is_between (least t) (greatest t) v) v) (Some (modulo t v))

abbrev pub truth : Bool → ℤ
truth b = cond b (pos 1) (pos 0)

-- a type's numbers can be shifted by the numbers from 0 to its width less 1 (6.5.7p3)
abbrev pub is_count : IntType → ℤ → Bool
is_count t n = is_between (pos 0) (pos (t.bits - 1)) n

-- the remainder isn't allowed where the quotient isn't: by 0, and of a signed type's least number by -1 (6.5.5p5, p6)
abbrev pub can_divide : IntType → ℤ → ℤ → Bool
can_divide t v w = not (int_eq w (pos 0)) && not (t.signed && int_eq v (least t) && int_eq w (neg_ℤ (pos 1)))

-- the exact result, before it is made a number of the type
abbrev pub exact : Op → IntType → ℤ → ℤ → Option ℤ
exact op.Add t v w = Some (v +ℤ w)
exact op.Sub t v w = Some (v -ℤ w)
exact op.Mul t v w = Some (v *ℤ w)
exact op.Div t v w = given (can_divide t v w) (int_div v w)
exact op.Rem t v w = given (can_divide t v w) (int_rem v w)
exact op.And t v w = Some (int_bit_and w128 v w)
exact op.Or t v w = Some (int_bit_or w128 v w)
exact op.Xor t v w = Some (int_bit_xor w128 v w)
exact op.Shl t v w = given (is_count t w && int_le (pos 0) v) (shifted_up v w)
exact op.Shr t v w = given (is_count t w) (shifted_down v w)
exact op.Eq t v w = Some (truth (int_eq v w))
exact op.Ne t v w = Some (truth (not (int_eq v w)))
exact op.Lt t v w = Some (truth (int_lt v w))
exact op.Le t v w = Some (truth (int_le v w))
exact op.Gt t v w = Some (truth (int_lt w v))
exact op.Ge t v w = Some (truth (int_le w v))

abbrev pub conv_all : IntType → Option ℤ → Option ℤ
conv_all t None = None
conv_all t (Some v) = conv t v

abbrev pub binary : Op → IntType → ℤ → ℤ → Option ℤ
binary op t v w = conv_all t (exact op t v w)

abbrev pub un_exact : UnOp → IntType → ℤ → ℤ
un_exact un.Neg t v = neg_ℤ v
un_exact un.Not t v = complement_from t -ℤ v

abbrev pub unary : UnOp → IntType → ℤ → Option ℤ
unary op t v = conv t (un_exact op t v)

-- a conversion to an unsigned type gives the number of the type that differs by a multiple of 2 to the width (6.3.1.3p2)
abbrev pub ModuloIsC99 : Type 0
ModuloIsC99 = (t : IntType) (v : ℤ) → IsIntType t → t.signed ≡ false → IsWrapped t v (modulo t v)

-- every result of numbers of the type (how far to shift is any number) that lie in the operands lies in the interval of results
abbrev pub BinCovers : Op → Type 0
BinCovers op = (t : IntType) (a b : Interval) (v w x : ℤ) → IsIntType t → IsOfType t v → (takes_count op ≡ false → IsOfType t w) → IsIn a v → IsIn b w → binary op t v w ≡ Some x → Holds (bin_interval op t a b) x

abbrev pub UnCovers : UnOp → Type 0
UnCovers op = (t : IntType) (a : Interval) (v x : ℤ) → IsIntType t → IsOfType t v → IsIn a v → unary op t v ≡ Some x → Holds (un_interval op t a) x

abbrev pub ConvCovers : Type 0
ConvCovers = (t : IntType) (a : Interval) (v x : ℤ) → IsIntType t → IsIn a v → conv t v ≡ Some x → Holds (conv_interval t a) x

-- wider operands have wider results
abbrev pub BinIsMonotone : Op → Type 0
BinIsMonotone op = (t : IntType) (a b c d : Interval) → IsIntType t → interval_within a c ≡ true → interval_within b d ≡ true → AreWithin (bin_interval op t a b) (bin_interval op t c d)

abbrev pub UnIsMonotone : UnOp → Type 0
UnIsMonotone op = (t : IntType) (a c : Interval) → IsIntType t → interval_within a c ≡ true → AreWithin (un_interval op t a) (un_interval op t c)

abbrev pub ConvIsMonotone : Type 0
ConvIsMonotone = (t : IntType) (a c : Interval) → IsIntType t → interval_within a c ≡ true → AreWithin (conv_interval t a) (conv_interval t c)
