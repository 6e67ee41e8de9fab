-- The value that an instruction may give its register.
use Rattle.std.specs.Prelude.{ℕ, ◌≡◌, ℤ, pos, ◌*ℤ◌, List, Some}
use Rattle.po_base.specs.declared.numbers.RegNo.{RegNo}
use Rattle.po_base.specs.declared.numbers.SlotNo.{SlotNo}
use Rattle.po_base.specs.declared.operand.Opnd.{Opnd}
use Rattle.po_base.specs.declared.operators.UnOp.{UnOp}
use Rattle.po_arith.specs.declared.int_type.IntType.{IntType}
use Rattle.po_interval.specs.Results.{unary}
use Rattle.po_ir.specs.declared.graph.Graph.{Graph}
use Rattle.po_ir.specs.declared.instr.Access.{Access}
use Rattle.po_ir.specs.declared.instr.Ty.{Ty}
use Rattle.po_ir.specs.Types.{TypeIs}
use Rattle.po_memory.specs.declared.block.Block.{Block}
use Rattle.po_memory.specs.declared.frame.Frame.{Frame}
use Rattle.po_memory.specs.declared.value.Value.{Value}
use Rattle.po_memory.specs.declared.value.Value.TheVariants.{Number, Pointer}
use Rattle.po_memory.specs.Accesses.{Loads}
use Rattle.po_memory.specs.Values.{moved}
use Rattle.po_meaning.specs.Local.{IsDistance}
use Rattle.po_meaning.specs.Operands.{Is, as_value, pointer_value, slot_block}

-- the number as a value of the register's type
abbrev pub IsConstant : Graph → RegNo → ℤ → Value → Type 0
IsConstant g to n x = (t : Ty) × TypeIs g to (λ s. s ≡ t) × (x ≡ as_value t n)

-- the exact result of `-a` or `~a`
abbrev pub Negates : UnOp → IntType → Frame → Opnd → Value → Type 0
Negates op t frame a x = (v : ℤ) × (y : ℤ) × Is frame a v × (unary op t v ≡ Some y) × (x ≡ Number y)

-- the start of the slot's block
abbrev pub IsSlotStart : Frame → SlotNo → Value → Type 0
IsSlotStart frame slot x = (b : ℕ) × (slot_block frame slot.0 ≡ Some b) × (x ≡ Pointer b (pos 0))

-- the pointer moved by so many items of `factor` bytes
abbrev pub IsMoved : ℤ → Frame → Opnd → Opnd → Value → Type 0
IsMoved factor frame base index x = (v : Value) × (i : ℤ) × (pointer_value frame base ≡ Some v) × Is frame index i × (x ≡ moved v (factor *ℤ i))

-- the distance of two pointers as a value of the register's type
abbrev pub IsDistanceIn : Graph → RegNo → ℕ → Frame → Opnd → Opnd → Value → Type 0
IsDistanceIn g to size frame a b x = TypeIs g to (λ t. IsDistance size frame a b t x)

-- what may be read there
abbrev pub IsLoaded : Access → List Block → Frame → Opnd → Value → Type 0
IsLoaded access m frame at x = (v : Value) × (pointer_value frame at ≡ Some v) × Loads access m v x
