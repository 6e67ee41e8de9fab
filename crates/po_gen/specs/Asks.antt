-- What each instruction asks of the values that it reads and of memory.
use Rattle.std.specs.Prelude.{ℕ, ◌++◌, ℤ, pos, ◌-ℤ◌, int_le, nat_lt, List, [], ◌∷◌, Bool, false, not, ◌&&◌, cond, Option, Some, None, slice_get}
use Rattle.po_base.specs.declared.numbers.LibNo.{LibNo}
use Rattle.po_base.specs.declared.operators.Op.{Op}
use Rattle.po_base.specs.declared.operators.Op.TheVariants as op
use Rattle.po_base.specs.declared.operators.UnOp.{UnOp}
use Rattle.po_base.specs.declared.operators.UnOp.TheVariants as un
use Rattle.po_base.specs.declared.operand.Opnd.{Opnd}
use Rattle.po_base.specs.declared.operand.Opnd.TheVariants as operand
use Rattle.po_arith.specs.declared.int_type.IntType.{IntType}
use Rattle.po_arith.specs.Types.{least, greatest}
use Rattle.po_ir.specs.declared.graph.Reg.{Reg as Register}
use Rattle.po_ir.specs.declared.graph.Graph.{Graph}
use Rattle.po_ir.specs.declared.instr.Ty.{Ty}
use Rattle.po_ir.specs.declared.instr.Ty.TheVariants.{Int, Ptr}
use Rattle.po_ir.specs.declared.instr.Access.{Access}
use Rattle.po_ir.specs.declared.instr.Callee.{Callee}
use Rattle.po_ir.specs.declared.instr.Callee.TheVariants.{Fun, Extern as Undefined}
use Rattle.po_ir.specs.declared.instr.Reason.{Reason}
use Rattle.po_ir.specs.declared.instr.Reason.TheVariants as reason
use Rattle.po_ir.specs.declared.instr.Instr.{Instr}
use Rattle.po_ir.specs.declared.instr.Instr.TheVariants as instr
use Rattle.po_pred.specs.declared.pred.Atom.TheVariants as atom
use Rattle.po_pred.specs.declared.pred.Place.{Place}
use Rattle.po_pred.specs.declared.pred.Why.{Why}
use Rattle.po_pred.specs.declared.pred.Why.TheVariants as why
use Rattle.po_pred.specs.declared.pred.Over.{Over}
use Rattle.po_pred.specs.declared.pred.Over.TheVariants as over
use Rattle.po_pred.specs.declared.pred.Pred.{Pred}
use Rattle.po_pred.specs.declared.pred.Pred.TheVariants.{NotNull, Live, Span, Filled, Writable, Nonzero, NoOver, IntIn, Aligned, SameBlock, Never}

-- what a call of a library function asks, by the function, the operands and the places of the texts that a format reads
abbrev pub Required : Type 0
Required = LibNo → List Opnd → List ℕ → List Pred

-- a number
abbrev pub number : ℤ → Place
number n = record { atom = None; lo = n; hi = n }

-- the value of an operand
abbrev pub place : Opnd → Place
place (operand.Reg r) = record { atom = Some (atom.Reg r); lo = pos 0; hi = pos 0 }
place (operand.Num n) = number n

-- ---- numbers

-- the overflow of an operator, where the type is signed (6.5p5); an unsigned result wraps (6.2.5p9)
abbrev pub overflow : Over → IntType → Place → Place → List Pred
overflow o t a b = cond t.signed (NoOver o t.bits a (Some b) ∷ []) []

-- a divisor that isn't 0 (6.5.5p5), and the overflow (6.5.5p6)
abbrev pub division : Over → IntType → Place → Place → List Pred
division o t a b = Nonzero b ∷ overflow o t a b

-- a count below the width (6.5.7p3)
abbrev pub count : IntType → Place → Pred
count t b = IntIn b (pos 0) (pos t.bits -ℤ pos 1)

-- an operator on numbers
abbrev pub operator : Op → IntType → Place → Place → List Pred
operator op.Add t a b = overflow over.Add t a b
operator op.Sub t a b = overflow over.Sub t a b
operator op.Mul t a b = overflow over.Mul t a b
operator op.Div t a b = division over.Div t a b
operator op.Rem t a b = division over.Rem t a b
operator op.Shl t a b = count t b ∷ overflow over.Shl t a b
operator op.Shr t a b = count t b ∷ []
operator _ t a b = []

-- a sign that is turned (6.5p5)
abbrev pub sign : UnOp → IntType → Place → List Pred
sign un.Neg t a = cond t.signed (NoOver over.Neg t.bits a None ∷ []) []
sign un.Not t a = []

-- ---- conversions

abbrev pub is_of_type : IntType → ℤ → Bool
is_of_type t v = int_le (least t) v && int_le v (greatest t)

-- whether every value of the type is one of the integer type t
abbrev pub keeps_type : IntType → Ty → Bool
keeps_type t (Int s) = is_of_type t (least s) && is_of_type t (greatest s)
keeps_type t Ptr = false

abbrev pub keeps_register : IntType → Option Register → Bool
keeps_register t None = false
keeps_register t (Some register) = keeps_type t register.ty

-- whether every value of the operand is one of t, by the type of its register, or by the number
abbrev pub keeps : Graph → IntType → Opnd → Bool
keeps g t (operand.Reg r) = keeps_register t (slice_get g.regs r.0)
keeps g t (operand.Num n) = is_of_type t n

-- a value of the signed type (6.3.1.3p3)
abbrev pub in_type : IntType → Place → Pred
in_type t a = IntIn a (least t) (greatest t)

-- a conversion: one to an unsigned type wraps (6.3.1.3p2), one of a pointer needs the alignment of its new type (6.3.2.3p7)
abbrev pub conversion : Graph → Opnd → Ty → ℕ → List Pred
conversion g from (Int t) align = cond (t.signed && not (keeps g t from)) (in_type t (place from) ∷ []) []
conversion g from Ptr align = Aligned (place from) align ∷ []

-- ---- pointers

-- so many bytes from the pointer on lie in its block
abbrev pub spans : Place → ℕ → Pred
spans p size = Span p (pos 1) (number (pos 0)) (number (pos size))

abbrev pub is_filled : Place → ℕ → Pred
is_filled p size = Filled p (pos 1) (number (pos 0)) (number (pos size))

abbrev pub alignment : Place → ℕ → List Pred
alignment p align = cond (nat_lt 1 align) (Aligned p align ∷ []) []

-- a pointer that moves (6.5.6p8)
abbrev pub move : Place → Place → ℤ → List Pred
move p i factor = NotNull p ∷ (Live p ∷ (Span p factor i i ∷ []))

-- two pointers into one object (6.5.6p9, 6.5.8p5)
abbrev pub pair : Place → Place → List Pred
pair a b = NotNull a ∷ (NotNull b ∷ (Live a ∷ (Live b ∷ (SameBlock a b ∷ []))))

-- only the order of two pointers asks for one object
abbrev pub comparison : Op → Place → Place → List Pred
comparison op.Lt a b = pair a b
comparison op.Le a b = pair a b
comparison op.Gt a b = pair a b
comparison op.Ge a b = pair a b
comparison _ a b = []

-- an operator in its type
abbrev pub computation : Op → Ty → Place → Place → List Pred
computation o (Int t) a b = operator o t a b
computation o Ptr a b = comparison o a b

-- the test of an If in its type
abbrev pub test : Op → Ty → Place → Place → List Pred
test o (Int t) a b = []
test o Ptr a b = comparison o a b

-- ---- memory

-- an object of this size and alignment is there (6.5.3.2p4, 6.2.4p2)
abbrev pub object : Place → ℕ → ℕ → List Pred
object p size align = (NotNull p ∷ (Live p ∷ (spans p size ∷ []))) ++ alignment p align

abbrev pub load : Place → Access → List Pred
load p access = object p access.size access.align ++ is_filled p access.size ∷ []

-- also that it may be changed (6.4.5p6, 6.7.3p5)
abbrev pub store : Place → Access → List Pred
store p access = object p access.size access.align ++ Writable p ∷ []

abbrev pub objects : Place → Place → ℕ → List Pred
objects p q size = NotNull p ∷ (NotNull q ∷ (Live p ∷ (Live q ∷ (spans p size ∷ (spans q size ∷ [])))))

-- a copy asks the same of both objects, of the target first
abbrev pub copy : Place → Place → ℕ → ℕ → List Pred
copy p q size align = objects p q size ++ alignment p align ++ alignment q align ++ Writable p ∷ []

-- ---- calls

-- nothing is known of a function without a body in the project
abbrev pub call : Callee → List Pred
call (Fun f) = []
call (Undefined name) = Never why.Extern ∷ []

-- a body that isn't read, and the end of a function that has to return a value (6.9.1p12)
abbrev pub why_never : Reason → Why
why_never reason.Unread = why.Unread
why_never reason.End = why.End

-- ---- what an instruction asks, in its order

abbrev pub asks : Required → Graph → Instr → List Pred
asks required g (instr.Bin to o ty a b) = computation o ty (place a) (place b)
asks required g (instr.Un to o ty a) = sign o ty (place a)
asks required g (instr.Conv to from ty align) = conversion g from ty align
asks required g (instr.PtrAdd to base index factor) = move (place base) (place index) factor
asks required g (instr.PtrDiff to a b size) = pair (place a) (place b)
asks required g (instr.Load to at access) = load (place at) access
asks required g (instr.Store at value access) = store (place at) access
asks required g (instr.CopyBytes to from size align) = copy (place to) (place from) size align
asks required g (instr.Call to callee args strings) = call callee
asks required g (instr.Lib to lib args strings) = required lib args strings
asks required g (instr.If o ty a b true_side false_side) = test o ty (place a) (place b)
asks required g (instr.Never reason) = Never (why_never reason) ∷ []
asks required g _ = []
