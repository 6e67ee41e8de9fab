-- The steps of instructions that stay in their frame: what becomes of the frame and of the blocks.
use Rattle.std.specs.Prelude.{ℕ, ◌+◌, ◌≡◌, ◌≤◌, ℤ, pos, ◌-ℤ◌, ◌*ℤ◌, int_div, List, [], ◌∷◌, ◌++◌, Bool, true, false, not, cond, Some, None, length, replicate, slice_get}
use Rattle.po_base.specs.declared.operators.Op.{Op}
use Rattle.po_base.specs.declared.operand.Opnd.{Opnd}
use Rattle.po_arith.specs.Types.{IsWrapped}
use Rattle.po_interval.specs.Results.{truth, binary, unary, conv}
use Rattle.po_ir.specs.declared.graph.Graph.{Graph}
use Rattle.po_ir.specs.declared.graph.Slot.{Slot}
use Rattle.po_ir.specs.declared.instr.Ty.{Ty}
use Rattle.po_ir.specs.declared.instr.Ty.TheVariants.{Int, Ptr}
use Rattle.po_ir.specs.declared.instr.Local.{Local as Variable}
use Rattle.po_ir.specs.declared.instr.Local.TheVariants as variable
use Rattle.po_ir.specs.declared.instr.Instr.{Instr}
use Rattle.po_ir.specs.declared.instr.Instr.TheVariants.{Const, Copy, Bin, Un, Conv, AddrSlot, AddrGlobal, AddrStr, PtrAdd, PtrDiff, Load, Store, CopyBytes, Fill, Enter, Leave, If, Jump}
use Rattle.po_ir.specs.declared.project.Project.{Project}
use Rattle.po_ir.specs.Types.{TypeIs}
use Rattle.po_memory.specs.declared.block.Block.{Block}
use Rattle.po_memory.specs.declared.frame.Frame.{Frame}
use Rattle.po_memory.specs.declared.value.Byte.TheVariants.{Blank}
use Rattle.po_memory.specs.declared.value.Value.{Value}
use Rattle.po_memory.specs.declared.value.Value.TheVariants.{Number, Pointer}
use Rattle.po_memory.specs.Values.{moved, register_value}
use Rattle.po_memory.specs.Accesses.{Loads, Stores, Copies, Fills, Kills}
use Rattle.po_meaning.specs.Operands.{pointer_value, value_at, Is, as_value, slot_block, at_node, onward, put, without_value, with_block}
use Rattle.po_meaning.specs.Pointers.{compares, MayCompare}

-- a test in this type may come out so
abbrev pub Tests : Op → Ty → Frame → Opnd → Opnd → Bool → Type 0
Tests o (Int t) fr a b holds = (v : ℤ) × (w : ℤ) × Is fr a v × Is fr b w × (holds ≡ compares o v w)
Tests o Ptr fr a b holds = (v : Value) × (w : Value) × (pointer_value fr a ≡ Some v) × (pointer_value fr b ≡ Some w) × MayCompare o v w holds

-- an operator in this type may give this value: the exact result, where that of an unsigned type wraps (6.2.5p9, 6.5)
abbrev pub Computes : Op → Ty → Frame → Opnd → Opnd → Value → Type 0
Computes o (Int t) fr a b x = (v : ℤ) × (w : ℤ) × (y : ℤ) × Is fr a v × Is fr b w × (binary o t v w ≡ Some y) × (x ≡ Number y)
Computes o Ptr fr a b x = (holds : Bool) × Tests o Ptr fr a b holds × (x ≡ Number (truth holds))

-- a conversion may give this value: one to an unsigned type wraps, and a pointer keeps its value (6.3.1.3, 6.3.2.3p7)
abbrev pub Converts : Ty → Frame → Opnd → Value → Type 0
Converts (Int t) fr from x = (v : ℤ) × (y : ℤ) × Is fr from v × (conv t v ≡ Some y) × (x ≡ Number y)
Converts Ptr fr from x = pointer_value fr from ≡ Some x

-- the distance of two pointers into one block in items of this size (6.5.6p9)
abbrev pub AreAway : ℕ → Value → Value → ℤ → Type 0
AreAway size (Pointer block offset) (Pointer other place) n = (block ≡ other) × (n ≡ int_div (offset -ℤ place) (pos size))
AreAway size v w n = ⊥

-- the distance of two operands, wrapped to the register's type
abbrev pub IsDistance : ℕ → Frame → Opnd → Opnd → Ty → Value → Type 0
IsDistance size fr a b (Int t) x =
    (v : Value) × (w : Value) × (n : ℤ) × (y : ℤ) × (pointer_value fr a ≡ Some v) × (pointer_value fr b ≡ Some w) × AreAway size v w n × IsWrapped t n y × (x ≡ Number y)
IsDistance size fr a b Ptr x = ⊥

-- a new block for a slot: it has no values yet (6.2.4p5, 6.7.8p10)
pub record IsNew (slot : Slot) (c : Block) : Type 0 where
  pub bytes : c.bytes ≡ replicate slot.size Blank
  pub align : slot.align ≤ c.align
  pub alive : c.alive ≡ true
  pub writable : c.writable ≡ not slot.constant
  pub heap : c.heap ≡ false

-- a variable comes to be: a register without a value, or a slot with a new block
abbrev pub Opens : Graph → Variable → Frame → List Block → Frame → List Block → Type 0
Opens g (variable.Reg r) fr m u w = (u ≡ without_value r fr) × (w ≡ m)
Opens g (variable.Slot s) fr m u w =
    (slot : Slot) × (c : Block) × (slice_get g.slots s.0 ≡ Some slot) × IsNew slot c × (u ≡ with_block s (Some (length m)) fr) × (w ≡ m ++ c ∷ [])

-- the frame fr and the blocks m become the frame u and the blocks w
abbrev pub Local : Project → Graph → Instr → Frame → List Block → Frame → List Block → Type 0
Local p g (Const to value) fr m u w = (t : Ty) × TypeIs g to (λ s. s ≡ t) × (u ≡ put to (as_value t value) fr) × (w ≡ m)
Local p g (Copy to from) fr m u w = (v : Value) × (register_value fr from.0 ≡ Some v) × (u ≡ put to v fr) × (w ≡ m)
Local p g (Bin to o ty a b) fr m u w = (v : Value) × Computes o ty fr a b v × (u ≡ put to v fr) × (w ≡ m)
Local p g (Un to o t a) fr m u w = (v : ℤ) × (x : ℤ) × Is fr a v × (unary o t v ≡ Some x) × (u ≡ put to (Number x) fr) × (w ≡ m)
Local p g (Conv to from ty align) fr m u w = (v : Value) × Converts ty fr from v × (u ≡ put to v fr) × (w ≡ m)
Local p g (AddrSlot to slot) fr m u w = (b : ℕ) × (slot_block fr slot.0 ≡ Some b) × (u ≡ put to (Pointer b (pos 0)) fr) × (w ≡ m)
Local p g (AddrGlobal to global) fr m u w = (u ≡ put to (Pointer global.0 (pos 0)) fr) × (w ≡ m)
Local p g (AddrStr to text) fr m u w = (u ≡ put to (Pointer (length p.globals + text.0) (pos 0)) fr) × (w ≡ m)
Local p g (PtrAdd to base index factor) fr m u w =
    (v : Value) × (i : ℤ) × (pointer_value fr base ≡ Some v) × Is fr index i × (u ≡ put to (moved v (factor *ℤ i)) fr) × (w ≡ m)
Local p g (PtrDiff to a b size) fr m u w = (v : Value) × TypeIs g to (λ t. IsDistance size fr a b t v) × (u ≡ put to v fr) × (w ≡ m)
Local p g (Load to at access) fr m u w = (v : Value) × (x : Value) × (pointer_value fr at ≡ Some v) × Loads access m v x × (u ≡ put to x fr) × (w ≡ m)
Local p g (Store at value access) fr m u w =
    (v : Value) × (x : Value) × (pointer_value fr at ≡ Some v) × (value_at fr access.ty value ≡ Some x) × Stores access m v x w × (u ≡ onward fr)
Local p g (CopyBytes to from size align) fr m u w = (v : Value) × (x : Value) × (pointer_value fr to ≡ Some v) × (pointer_value fr from ≡ Some x) × Copies size m v x w × (u ≡ onward fr)
Local p g (Fill slot size) fr m u w = (b : ℕ) × (slot_block fr slot.0 ≡ Some b) × Fills size m b w × (u ≡ onward fr)
Local p g (Enter what) fr m u w = Opens g what fr m u w
Local p g (Leave slot) fr m u w = (b : ℕ) × (slot_block fr slot.0 ≡ Some b) × Kills m b w × (u ≡ with_block slot None fr)
Local p g (If o ty a b true_side false_side) fr m u w = (holds : Bool) × Tests o ty fr a b holds × (u ≡ at_node (cond holds true_side false_side) fr) × (w ≡ m)
Local p g (Jump next) fr m u w = (u ≡ at_node next fr) × (w ≡ m)
Local p g _ fr m u w = ⊥
