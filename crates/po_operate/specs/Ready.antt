-- What an instruction finds of its operands in a state that belongs to a whole project and in which its obligations hold. The
-- code that carries it out relies on this and on nothing else.
use Rattle.std.specs.Prelude.{ℕ, ◌≡◌, ◌≤◌, ℤ, pos, false, List, Some, length, slice_get}
use Rattle.po_base.specs.declared.numbers.SlotNo.{SlotNo}
use Rattle.po_base.specs.declared.operators.Op.{Op}
use Rattle.po_base.specs.declared.operand.Opnd.{Opnd}
use Rattle.po_arith.specs.declared.int_type.IntType.{IntType}
use Rattle.po_arith.specs.Types.{IsIntType, IsOfType}
use Rattle.po_interval.specs.Ranges.{takes_count}
use Rattle.po_ir.specs.declared.graph.Graph.{Graph}
use Rattle.po_ir.specs.declared.graph.Reg.{Reg as Register}
use Rattle.po_ir.specs.declared.instr.Ty.{Ty}
use Rattle.po_ir.specs.declared.instr.Ty.TheVariants.{Int, Ptr}
use Rattle.po_ir.specs.declared.instr.Instr.{Instr}
use Rattle.po_ir.specs.declared.instr.Instr.TheVariants.{Bin, Un, Conv, PtrDiff, Load, Store, CopyBytes, Fill, Leave}
use Rattle.po_ir.specs.IntTypes.{IsTypeOfTarget}
use Rattle.po_memory.specs.declared.block.Block.{Block}
use Rattle.po_memory.specs.declared.frame.Frame.{Frame}
use Rattle.po_memory.specs.declared.value.Value.{Value}
use Rattle.po_memory.specs.Accesses.{LoadAllowed, StoreAllowed}
use Rattle.po_memory.specs.Blocks.{OnPointer, Spans}
use Rattle.po_memory.specs.Bytes.{IsAccess}
use Rattle.po_meaning.specs.Operands.{Is, pointer_value, slot_block}

-- if the operand is a number it is one of the type
abbrev pub IsNumberOf : IntType → Frame → Opnd → Type 0
IsNumberOf t frame a = (v : ℤ) → Is frame a v → IsOfType t v

-- the operands of an operator are numbers of its type; how far to shift is any number
pub record AreOperands (op : Op) (t : IntType) (frame : Frame) (a b : Opnd) : Type 0 where
  pub typed : IsIntType t
  pub first : IsNumberOf t frame a
  pub second : takes_count op ≡ false → IsNumberOf t frame b

abbrev pub AreOperandsAt : Op → Ty → Frame → Opnd → Opnd → Type 0
AreOperandsAt op (Int t) frame a b = AreOperands op t frame a b
AreOperandsAt op Ptr frame a b = Unit {0}

-- if the operand is a pointer, this holds of it
abbrev pub OnOperand : Frame → Opnd → (Value → Type 0) → Type 0
OnOperand frame a IsSo = (v : Value) → pointer_value frame a ≡ Some v → IsSo v

-- if the slot is entered, its block is there, and this holds of it
abbrev pub OnSlot : Frame → List Block → SlotNo → (Block → Type 0) → Type 0
OnSlot frame m slot IsSo = (b : ℕ) → slot_block frame slot.0 ≡ Some b → (c : Block) × (slice_get m b ≡ Some c) × IsSo c

abbrev pub IsReady : Graph → Instr → Frame → List Block → Type 0
IsReady g (Bin to op ty a b) frame m = AreOperandsAt op ty frame a b
IsReady g (Un to op t a) frame m = IsIntType t × IsNumberOf t frame a
IsReady g (Conv to from ty align) frame m = IsTypeOfTarget ty
IsReady g (PtrDiff to a b size) frame m = (1 ≤ size) × ((register : Register) → slice_get g.regs to.0 ≡ Some register → IsTypeOfTarget register.ty)
IsReady g (Load to at access) frame m = IsAccess access × OnOperand frame at (LoadAllowed access m)
IsReady g (Store at value access) frame m = IsAccess access × OnOperand frame at (StoreAllowed access m)
IsReady g (CopyBytes to from size align) frame m = OnOperand frame to (OnPointer (Spans (pos 0) (pos size)) m) × OnOperand frame from (OnPointer (Spans (pos 0) (pos size)) m)
IsReady g (Fill slot size) frame m = OnSlot frame m slot (λ c. size ≤ length c.bytes)
IsReady g (Leave slot) frame m = OnSlot frame m slot (λ c. Unit {0})
IsReady g i frame m = Unit {0}
