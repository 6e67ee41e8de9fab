-- What an instruction names: the register that it writes, the operands that it reads, its slot, and the nodes that follow it.
use Rattle.std.specs.Prelude.{ℕ, ◌+◌, List, [], ◌∷◌, Option, Some, None}
use Rattle.po_base.specs.declared.numbers.RegNo.{RegNo}
use Rattle.po_base.specs.declared.numbers.SlotNo.{SlotNo}
use Rattle.po_base.specs.declared.operand.Opnd.{Opnd}
use Rattle.po_base.specs.declared.operand.Opnd.TheVariants as operand
use Rattle.po_ir.specs.declared.instr.Instr.{Instr}
use Rattle.po_ir.specs.declared.instr.Instr.TheVariants.{Const, Copy, Bin, Un, Conv, AddrSlot, AddrGlobal, AddrStr, PtrAdd, PtrDiff, Load, Store, CopyBytes, Fill, Enter, Leave, Call, Lib, If, Jump, Return, Never}
use Rattle.po_ir.specs.declared.instr.Local.{Local}
use Rattle.po_ir.specs.declared.instr.Local.TheVariants as local

-- the register that gets the instruction's result
abbrev pub written : Instr → Option RegNo
written (Const to value) = Some to
written (Copy to from) = Some to
written (Bin to op ty a b) = Some to
written (Un to op ty a) = Some to
written (Conv to from ty align) = Some to
written (AddrSlot to slot) = Some to
written (AddrGlobal to global) = Some to
written (AddrStr to text) = Some to
written (PtrAdd to base index factor) = Some to
written (PtrDiff to a b size) = Some to
written (Load to at access) = Some to
written (Call to callee args strings) = to
written (Lib to lib args strings) = to
written _ = None

abbrev pub returned : Option Opnd → List Opnd
returned None = []
returned (Some value) = value ∷ []

-- the operands that the instruction reads, in their order
abbrev pub operands : Instr → List Opnd
operands (Copy to from) = operand.Reg from ∷ []
operands (Bin to op ty a b) = a ∷ (b ∷ [])
operands (Un to op ty a) = a ∷ []
operands (Conv to from ty align) = from ∷ []
operands (PtrAdd to base index factor) = base ∷ (index ∷ [])
operands (PtrDiff to a b size) = a ∷ (b ∷ [])
operands (Load to at access) = at ∷ []
operands (Store at value access) = at ∷ (value ∷ [])
operands (CopyBytes to from size align) = to ∷ (from ∷ [])
operands (Call to callee args strings) = args
operands (Lib to lib args strings) = args
operands (If op ty a b true_side false_side) = a ∷ (b ∷ [])
operands (Return value) = returned value
operands _ = []

abbrev pub entered_register : Local → Option RegNo
entered_register (local.Reg r) = Some r
entered_register (local.Slot s) = None

abbrev pub entered_slot : Local → Option SlotNo
entered_slot (local.Reg r) = None
entered_slot (local.Slot s) = Some s

-- the register whose variable comes to be (6.2.4p5)
abbrev pub opened : Instr → Option RegNo
opened (Enter what) = entered_register what
opened _ = None

-- the slot that comes to be
abbrev pub entered : Instr → Option SlotNo
entered (Enter what) = entered_slot what
entered _ = None

-- the slot that the instruction uses, which has to be entered
abbrev pub used : Instr → Option SlotNo
used (AddrSlot to slot) = Some slot
used (Fill slot size) = Some slot
used (Leave slot) = Some slot
used _ = None

-- the slot that ends
abbrev pub left : Instr → Option SlotNo
left (Leave slot) = Some slot
left _ = None

-- the nodes that may follow the instruction where it stands at the node n
abbrev pub followers : ℕ → Instr → List ℕ
followers n (If op ty a b true_side false_side) = true_side.0 ∷ (false_side.0 ∷ [])
followers n (Jump next) = next.0 ∷ []
followers n (Return value) = []
followers n (Never reason) = []
followers n _ = (n + 1) ∷ []
