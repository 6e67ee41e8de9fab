-- Which values the registers, operands and accesses of a graph have.
use Rattle.std.specs.Prelude.{ℕ, ◌≡◌, ◌/◌, ◌==◌, ℤ, pos, List, [], ◌∷◌, Bool, true, false, cond, Option, Some, None, MatchOption, Contains, codes, slice_get}
use Rattle.po_base.specs.declared.operators.Op.{Op}
use Rattle.po_base.specs.declared.operators.Op.TheVariants as op
use Rattle.po_base.specs.declared.numbers.RegNo.{RegNo}
use Rattle.po_base.specs.declared.operand.Opnd.{Opnd}
use Rattle.po_base.specs.declared.operand.Opnd.TheVariants as operand
use Rattle.po_arith.specs.declared.int_type.IntType.{IntType}
use Rattle.po_arith.specs.declared.target.Target.{Target}
use Rattle.po_arith.specs.declared.target.Target.TheVariants.{L64}
use Rattle.po_arith.specs.Types.{IsIntType, IsOfType}
use Rattle.po_ir.specs.declared.instr.Ty.{Ty}
use Rattle.po_ir.specs.declared.instr.Ty.TheVariants.{Int, Ptr}
use Rattle.po_ir.specs.declared.graph.Reg.{Reg as Register}
use Rattle.po_ir.specs.declared.graph.Graph.{Graph}

-- the register is there, and its type is as P says
abbrev pub TypeIs : Graph → RegNo → (Ty → Type 0) → Type 0
TypeIs g r P = MatchOption (slice_get g.regs r.0) ⊥ (λ (register : Register). P register.ty)

-- every value of the first type is one of the second
abbrev pub IsKept : Ty → Ty → Type 0
IsKept (Int t) (Int u) = (v : ℤ) → IsOfType t v → IsOfType u v
IsKept Ptr Ptr = Unit {0}
IsKept _ _ = ⊥

-- the number is a value of the type; 0 is also the null pointer (6.3.2.3p3)
abbrev pub IsValue : Ty → ℤ → Type 0
IsValue (Int t) v = IsOfType t v
IsValue Ptr v = v ≡ pos 0

abbrev pub IsInteger : Ty → Type 0
IsInteger (Int t) = Unit {0}
IsInteger Ptr = ⊥

-- both results of a comparison are values of the type (6.5.8p6)
abbrev pub HasTruth : Ty → Type 0
HasTruth (Int t) = IsOfType t (pos 0) × IsOfType t (pos 1)
HasTruth Ptr = ⊥

-- the operand's values lie in the type
abbrev pub Lies : Graph → Ty → Opnd → Type 0
Lies g t (operand.Reg r) = TypeIs g r (λ s. IsKept s t)
Lies g t (operand.Num v) = IsValue t v

-- the operand has some integer type
abbrev pub LiesAmongIntegers : Graph → Opnd → Type 0
LiesAmongIntegers g (operand.Reg r) = TypeIs g r IsInteger
LiesAmongIntegers g (operand.Num v) = (t : IntType) × IsIntType t × IsOfType t v

abbrev pub is_comparison : Op → Bool
is_comparison op.Eq = true
is_comparison op.Ne = true
is_comparison op.Lt = true
is_comparison op.Le = true
is_comparison op.Gt = true
is_comparison op.Ge = true
is_comparison _ = false

abbrev pub is_shift : Op → Bool
is_shift op.Shl = true
is_shift op.Shr = true
is_shift _ = false

-- how many bytes a value of the type takes; one of _Bool takes a byte (6.2.6.1)
abbrev pub size_of : Target → Ty → ℕ
size_of L64 (Int t) = cond (t.bits == 1) 1 (t.bits / 8)
size_of L64 Ptr = 8

abbrev pub spelled : ℕ → Bool → IntType
spelled bits signed = record { bits = bits; signed = signed }

-- the integer types, with their spellings
abbrev pub integer_spellings : List (List ℕ × IntType)
integer_spellings =
    (codes "u1", spelled 1 false) ∷ ((codes "i8", spelled 8 true) ∷ ((codes "u8", spelled 8 false) ∷ ((codes "i16", spelled 16 true) ∷ ((codes "u16", spelled 16 false) ∷
    ((codes "i32", spelled 32 true) ∷ ((codes "u32", spelled 32 false) ∷ ((codes "i64", spelled 64 true) ∷ ((codes "u64", spelled 64 false) ∷ []))))))))

-- a type of a result with this spelling has values of this type, or none where it is void; the spelling of a pointer begins with `*`
abbrev pub IsResultType : List ℕ → Option Ty → Type 0
IsResultType text None = text ≡ codes "void"
IsResultType text (Some (Int t)) = Contains integer_spellings (text, t)
IsResultType text (Some Ptr) = (rest : List ℕ) × (text ≡ 42 ∷ rest)
