-- Graphs whose nodes name what is there.
use Rattle.std.specs.Prelude.{ℕ, ◌<◌, ◌-◌, List, MatchOption, Option, Some, None, All, length, slice_get}
use Rattle.po_base.specs.declared.numbers.RegNo.{RegNo}
use Rattle.po_base.specs.declared.numbers.SlotNo.{SlotNo}
use Rattle.po_base.specs.declared.operand.Opnd.{Opnd}
use Rattle.po_base.specs.declared.operand.Opnd.TheVariants.{Reg, Num}
use Rattle.po_ir.specs.declared.graph.Node.{Node}
use Rattle.po_ir.specs.declared.graph.Graph.{Graph}
use Rattle.po_ir.specs.declared.instr.Instr.{Instr}
use Rattle.po_ir.specs.declared.instr.Instr.TheVariants.{If, Jump, Return, Never}
use Rattle.po_ir.specs.Instructions.{written, operands, opened, entered, used}
use Rattle.po_ir.specs.Paths.{Path}

abbrev pub IsRegister : ℕ → Option RegNo → Type 0
IsRegister count None = Unit {0}
IsRegister count (Some r) = r.0 < count

abbrev pub IsSlot : ℕ → Option SlotNo → Type 0
IsSlot count None = Unit {0}
IsSlot count (Some s) = s.0 < count

abbrev pub IsThere : ℕ → Opnd → Type 0
IsThere count (Reg r) = r.0 < count
IsThere count (Num n) = Unit {0}

-- the nodes that an instruction names are among so many
abbrev pub AreTargets : ℕ → Instr → Type 0
AreTargets count (If op ty a b true_side false_side) = (true_side.0 < count) × (false_side.0 < count)
AreTargets count (Jump next) = next.0 < count
AreTargets count _ = Unit {0}

-- the next node doesn't follow by itself
abbrev pub Ends : Instr → Type 0
Ends (If op ty a b true_side false_side) = Unit {0}
Ends (Jump next) = Unit {0}
Ends (Return value) = Unit {0}
Ends (Never reason) = Unit {0}
Ends _ = ⊥

abbrev pub AreRegisters : ℕ → Instr → Type 0
AreRegisters count i = IsRegister count (written i) × All (IsThere count) (operands i) × IsRegister count (opened i)

abbrev pub AreSlots : ℕ → Instr → Type 0
AreSlots count i = IsSlot count (entered i) × IsSlot count (used i)

-- every register, slot and node that an instruction names is there
abbrev pub NamesParts : Graph → Instr → Type 0
NamesParts g i = AreRegisters (length g.regs) i × AreSlots (length g.slots) i × AreTargets (length g.nodes) i

-- there is a last node, and it doesn't fall through
abbrev pub EndsLast : List Node → Type 0
EndsLast nodes = MatchOption (slice_get nodes (length nodes - 1)) ⊥ (λ (n : Node). Ends n.instr)

-- there is a node, every register, slot and node that is named is there, and no last node falls through
abbrev pub IsValid : Graph → Type 0
IsValid g = All (λ (n : Node). NamesParts g n.instr) g.nodes × EndsLast g.nodes

-- the nodes of a way through a valid graph are there
abbrev pub WaysStayWithin : Type 0
WaysStayWithin = (g : Graph) (back : List Instr) (n : ℕ) → IsValid g → Path g 0 back n → n < length g.nodes
