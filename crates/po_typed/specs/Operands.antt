-- Which types operands have, and to which they are converted (C99 6.3, 6.5.5 to 6.5.15).
use Rattle.std.specs.Prelude.{ℕ, ◌≡◌, Bool, true, false, cond, List, [], ◌∷◌, Contains, Option, Some, None}
use Rattle.std.specs.Option.{is_some}
use Rattle.po_arith.specs.declared.int_type.IntType.{IntType}
use Rattle.po_base.specs.declared.operators.Op.{Op}
use Rattle.po_base.specs.declared.operators.Op.TheVariants as op
use Rattle.po_types.specs.declared.ctype.CType.{CType, out-CType}
use Rattle.po_types.specs.declared.ctype.CType.TheVariants as c
use Rattle.po_types.specs.declared.ctype.CType.TheOpen.{CType-F}
use Rattle.po_types.specs.Integers.{promoted, common, int_type, difference_type}
use Rattle.po_types.specs.Types.{size_of, layout_of}
use Rattle.po_typed.specs.Scopes.{Context}

-- a complete object type that some object may have
abbrev pub IsComplete : Context → CType → Type 0
IsComplete ctx t = (n : ℕ) × (size_of ctx.target ctx.structs t ≡ Some n)

-- The type of a value: an array is converted to a pointer; a function designator, and an incomplete struct, have none (6.3.2.1p2 to p4).
abbrev pub value_layer : Context → CType-F CType → CType → Option CType
value_layer ctx (CType-F.Array element n) t = Some (c.Ptr element)
value_layer ctx (CType-F.Struct n) t = cond (is_some (layout_of ctx.structs n)) (Some t) None
value_layer ctx (CType-F.Fun to params more) t = None
value_layer ctx _ t = Some t

abbrev pub value_type : Context → CType → Option CType
value_type ctx t = value_layer ctx (out-CType t) t

-- what a scalar is converted to where it is compared with 0 (6.5.3.3p5, 6.5.13p3, 6.8.4.1p2)
pub data Tested : CType → CType → Type 0 where
  tested_number : (t : IntType) → Tested (c.Int t) (c.Int (promoted t))
  tested_pointer : (t : CType) → Tested (c.Ptr t) (c.Ptr t)

-- what the operand of `++` or `--` is converted to, as by adding 1 (6.5.2.4p1, p2, 6.5.3.1p1, p2)
pub data Stepped (ctx : Context) : CType → CType → Type 0 where
  stepped_number : (t : IntType) → Stepped ctx (c.Int t) (c.Int (common t int_type))
  stepped_pointer : (t : CType) → IsComplete ctx t → Stepped ctx (c.Ptr t) (c.Ptr t)

abbrev pub arithmetic_operators : List Op
arithmetic_operators = op.Add ∷ op.Sub ∷ op.Mul ∷ op.Div ∷ op.Rem ∷ op.And ∷ op.Or ∷ op.Xor ∷ []

abbrev pub shift_operators : List Op
shift_operators = op.Shl ∷ op.Shr ∷ []

abbrev pub equality_operators : List Op
equality_operators = op.Eq ∷ op.Ne ∷ []

abbrev pub comparisons : List Op
comparisons = op.Eq ∷ op.Ne ∷ op.Lt ∷ op.Le ∷ op.Gt ∷ op.Ge ∷ []

-- those that stand in a compound assignment (6.5.16)
abbrev pub compound_operators : List Op
compound_operators = op.Add ∷ op.Sub ∷ op.Mul ∷ op.Div ∷ op.Rem ∷ op.And ∷ op.Or ∷ op.Xor ∷ op.Shl ∷ op.Shr ∷ []

abbrev pub void_layer : CType-F CType → Bool
void_layer CType-F.Void = true
void_layer _ = false

-- what two pointers point to where they are compared: void where one of them points to void, else what the first does
abbrev pub compared_as : CType → CType → CType
compared_as t u = cond (void_layer (out-CType u)) u t

-- Combines o t u result a b: values of types t and u are converted to a and b, and the operator gives this result
pub data Combines (ctx : Context) : Op → CType → CType → CType → CType → CType → Type 0 where
  -- 6.5.5p3, 6.5.6p4, 6.5.10p3, 6.5.11p3, 6.5.12p3
  arithmetic : (o : Op) (s t : IntType) → Contains arithmetic_operators o →
      Combines ctx o (c.Int s) (c.Int t) (c.Int (common s t)) (c.Int (common s t)) (c.Int (common s t))
  -- 6.5.7p3
  shift : (o : Op) (s t : IntType) → Contains shift_operators o →
      Combines ctx o (c.Int s) (c.Int t) (c.Int (promoted s)) (c.Int (promoted s)) (c.Int (promoted t))
  -- 6.5.8p3, p6, 6.5.9p3, p4
  numbers_compared : (o : Op) (s t : IntType) → Contains comparisons o →
      Combines ctx o (c.Int s) (c.Int t) (c.Int int_type) (c.Int (common s t)) (c.Int (common s t))
  pointers_compared : (o : Op) (t u : CType) → Contains comparisons o →
      Combines ctx o (c.Ptr t) (c.Ptr u) (c.Int int_type) (c.Ptr (compared_as t u)) (c.Ptr (compared_as t u))
  -- 6.5.6p2, p8
  pointer_plus : (t : CType) (s : IntType) → IsComplete ctx t → Combines ctx op.Add (c.Ptr t) (c.Int s) (c.Ptr t) (c.Ptr t) (c.Int s)
  plus_pointer : (t : CType) (s : IntType) → IsComplete ctx t → Combines ctx op.Add (c.Int s) (c.Ptr t) (c.Ptr t) (c.Int s) (c.Ptr t)
  -- 6.5.6p3, p8, p9
  pointer_minus : (t : CType) (s : IntType) → IsComplete ctx t → Combines ctx op.Sub (c.Ptr t) (c.Int s) (c.Ptr t) (c.Ptr t) (c.Int s)
  difference : (t : CType) → IsComplete ctx t → Combines ctx op.Sub (c.Ptr t) (c.Ptr t) (c.Int (difference_type ctx.target)) (c.Ptr t) (c.Ptr t)
