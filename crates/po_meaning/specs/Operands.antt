-- The values of operands in a frame, and frames that go on.
use Rattle.std.specs.Prelude.{ℕ, ◌+◌, ◌≡◌, ℤ, List, [], ◌∷◌, Option, Some, None, slice_get, slice_set}
use Rattle.po_base.specs.declared.numbers.NodeNo.{NodeNo}
use Rattle.po_base.specs.declared.numbers.RegNo.{RegNo}
use Rattle.po_base.specs.declared.numbers.SlotNo.{SlotNo}
use Rattle.po_base.specs.declared.operand.Opnd.{Opnd}
use Rattle.po_base.specs.declared.operand.Opnd.TheVariants as operand
use Rattle.po_ir.specs.declared.instr.Ty.{Ty}
use Rattle.po_ir.specs.declared.instr.Ty.TheVariants.{Int, Ptr}
use Rattle.po_memory.specs.declared.frame.Frame.{Frame}
use Rattle.po_memory.specs.declared.value.Value.{Value}
use Rattle.po_memory.specs.declared.value.Value.TheVariants.{Number, Null}
use Rattle.po_memory.specs.Values.{register_value}
use Rattle.po_memory.specs.Passing.{HasValue}

-- ---- operands

-- the value of an operand that is a number
abbrev pub number_value : Frame → Opnd → Option Value
number_value frame (operand.Reg r) = register_value frame r.0
number_value frame (operand.Num n) = Some (Number n)

-- the value of an operand that is a pointer, where the number 0 is the null pointer (6.3.2.3p3)
abbrev pub pointer_value : Frame → Opnd → Option Value
pointer_value frame (operand.Reg r) = register_value frame r.0
pointer_value frame (operand.Num n) = Some Null

-- the value of an operand that is used at a type
abbrev pub value_at : Frame → Ty → Opnd → Option Value
value_at frame (Int t) a = number_value frame a
value_at frame Ptr a = pointer_value frame a

-- the operand is this number
abbrev pub Is : Frame → Opnd → ℤ → Type 0
Is frame a v = number_value frame a ≡ Some (Number v)

-- the operands have these values, at the types of the parameters; further ones are of any type
abbrev pub ArePassed : Frame → List Ty → List Opnd → List Value → Type 0
ArePassed frame [] [] [] = Unit {0}
ArePassed frame [] (a ∷ args) (v ∷ values) = HasValue frame a v × ArePassed frame [] args values
ArePassed frame (t ∷ types) (a ∷ args) (v ∷ values) = (value_at frame t a ≡ Some v) × ArePassed frame types args values
ArePassed frame _ _ _ = ⊥

-- ---- frames

-- a number as a value of the type, where 0 is the null pointer (6.3.2.3p3)
abbrev pub as_value : Ty → ℤ → Value
as_value (Int t) n = Number n
as_value Ptr n = Null

abbrev pub block_held : Option (Option ℕ) → Option ℕ
block_held None = None
block_held (Some b) = b

-- the block of a slot, where it is entered
abbrev pub slot_block : Frame → ℕ → Option ℕ
slot_block frame s = block_held (slice_get frame.slots s)

-- the frame goes to this node
abbrev pub at_node : NodeNo → Frame → Frame
at_node n frame = record frame { node = n }

-- the frame goes to the next node
abbrev pub onward : Frame → Frame
onward frame = at_node (record { 0 = frame.node.0 + 1 }) frame

-- the register gets a value, and the next node follows
abbrev pub put : RegNo → Value → Frame → Frame
put to v frame = record (onward frame) { regs = slice_set frame.regs to.0 (Some v) }

-- the register has no value any more
abbrev pub without_value : RegNo → Frame → Frame
without_value r frame = record (onward frame) { regs = slice_set frame.regs r.0 None }

-- the slot has this block, or none
abbrev pub with_block : SlotNo → Option ℕ → Frame → Frame
with_block s b frame = record (onward frame) { slots = slice_set frame.slots s.0 b }

-- a register gets a result, where both are there
abbrev pub receive : Option RegNo → Option Value → Frame → Frame
receive (Some to) (Some v) frame = put to v frame
receive _ _ frame = onward frame
