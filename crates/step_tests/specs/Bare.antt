-- Functions of one parameter of type int, of a variable in a register, of a pointer in another, and of one slot of an int: they compute, compare, jump, call one
-- another and return, and they enter the slot, take its address, store to it, load from it and leave it.
use Rattle.std.specs.Prelude.{ℕ, ◌+◌, ◌==◌, ◌≡◌, ◌<◌, [], ◌∷◌, All, Bool, false, true, codes, length, None, Option, Some, List, slice_get}
use Rattle.po_base.specs.declared.numbers.RegNo.{RegNo}
use Rattle.po_base.specs.declared.operand.Opnd.{Opnd}
use Rattle.po_base.specs.declared.operand.Opnd.TheVariants as operand
use Rattle.po_arith.specs.declared.int_type.IntType.{IntType}
use Rattle.po_arith.specs.Types.{IsOfType}
use Rattle.po_ir.specs.declared.graph.Node.{Node}
use Rattle.po_ir.specs.declared.graph.Reg.{Reg as Register}
use Rattle.po_ir.specs.declared.graph.Slot.{Slot}
use Rattle.po_ir.specs.declared.instr.Access.{Access}
use Rattle.po_ir.specs.declared.instr.Callee.{Callee}
use Rattle.po_ir.specs.declared.instr.Callee.TheVariants.{Fun, Extern as Undefined}
use Rattle.po_ir.specs.declared.instr.Instr.{Instr}
use Rattle.po_ir.specs.declared.instr.Instr.TheVariants.{AddrSlot, Bin, Call, Enter, If, Jump, Leave, Load, Return, Never, Store}
use Rattle.po_ir.specs.declared.instr.Local.{Local}
use Rattle.po_ir.specs.declared.instr.Local.TheVariants as variable
use Rattle.po_ir.specs.declared.instr.Reason.TheVariants.{End}
use Rattle.po_ir.specs.declared.instr.Ty.TheVariants.{Int, Ptr}
use Rattle.po_ir.specs.declared.project.Effects.{Effects}
use Rattle.po_ir.specs.declared.project.Function.{Function}
use Rattle.po_ir.specs.declared.project.Project.{Project}
use Rattle.po_ir.specs.Reaching.{AreEffects}
use Rattle.po_ir.specs.Types.{is_comparison, is_shift, spelled}
use Rattle.po_ir.specs.Valid.{EndsLast}
use Rattle.po_ir.specs.Whole.{Signature, library_effects}

-- a library of one function, which nothing calls
abbrev pub signatures : List Signature
signatures = record { params = []; variadic = false; result = None; effects = record { frees = false; writes = false } } ∷ []

-- ---- registers and the slot

abbrev pub int : IntType
int = spelled 32 true

abbrev pub parameter : Register
parameter = record { name = None; ty = Int int; param = true }

abbrev pub variable_register : Register
variable_register = record { name = Some (codes "v"); ty = Int int; param = false }

abbrev pub pointer_register : Register
pointer_register = record { name = Some (codes "p"); ty = Ptr; param = false }

abbrev pub three_registers : List Register
three_registers = parameter ∷ (variable_register ∷ (pointer_register ∷ []))

abbrev pub int_slot : Slot
int_slot = record { size = 4; align = 4; constant = false }

abbrev pub int_access : Access
int_access = record { ty = Int int; size = 4; align = 4 }

-- ---- instructions

-- the parameter or the variable
abbrev pub IsOfInt : RegNo → Type 0
IsOfInt r = r.0 < 2

abbrev pub IsInt : Opnd → Type 0
IsInt (operand.Reg r) = IsOfInt r
IsInt (operand.Num v) = IsOfType int v

abbrev pub IsPointer : Opnd → Type 0
IsPointer (operand.Reg r) = r.0 ≡ 2
IsPointer (operand.Num v) = ⊥

abbrev pub ReceivesInt : Option RegNo → Type 0
ReceivesInt None = ⊥
ReceivesInt (Some r) = IsOfInt r

abbrev pub CallsSome : ℕ → Callee → Type 0
CallsSome functions (Fun g) = g.0 < functions
CallsSome functions (Undefined name) = ⊥

abbrev pub IsOneInt : List Opnd → Type 0
IsOneInt [] = ⊥
IsOneInt (a ∷ rest) = IsInt a × (rest ≡ [])

abbrev pub GivesInt : Option Opnd → Type 0
GivesInt None = ⊥
GivesInt (Some a) = IsInt a

abbrev pub IsSlot : Local → Type 0
IsSlot (variable.Reg r) = ⊥
IsSlot (variable.Slot s) = s.0 ≡ 0

-- an instruction of so many nodes and functions
abbrev pub IsBare : ℕ → ℕ → Instr → Type 0
IsBare functions nodes (Bin to op ty a b) = IsOfInt to × (is_comparison op ≡ false) × (is_shift op ≡ false) × (ty ≡ Int int) × IsInt a × IsInt b
IsBare functions nodes (If op ty a b yes_side no_side) = (ty ≡ Int int) × IsInt a × IsInt b × (yes_side.0 < nodes) × (no_side.0 < nodes)
IsBare functions nodes (Jump next) = next.0 < nodes
IsBare functions nodes (Call to callee args strings) = ReceivesInt to × CallsSome functions callee × IsOneInt args × (strings ≡ [])
IsBare functions nodes (Return value) = GivesInt value
IsBare functions nodes (Never reason) = reason ≡ End
IsBare functions nodes (Enter what) = IsSlot what
IsBare functions nodes (AddrSlot to slot) = (to.0 ≡ 2) × (slot.0 ≡ 0)
IsBare functions nodes (Store at value access) = IsPointer at × IsInt value × (access ≡ int_access)
IsBare functions nodes (Load to at access) = IsOfInt to × IsPointer at × (access ≡ int_access)
IsBare functions nodes (Leave slot) = slot.0 ≡ 0
IsBare functions nodes i = ⊥

-- ---- where the slot is entered

abbrev pub is_plus : Option ℕ → Bool
is_plus None = false
is_plus (Some sign) = sign == 43

-- whether a `+` stands at the node's place in a text of marks
abbrev pub is_marked : List ℕ → ℕ → Bool
is_marked marks n = is_plus (slice_get marks n)

-- the slot is entered there, by these marks
abbrev pub IsInside : List ℕ → ℕ → Type 0
IsInside marks n = is_marked marks n ≡ true

-- where the slot is entered at the node m, it was entered at the node n already
abbrev pub StaysInside : List ℕ → ℕ → ℕ → Type 0
StaysInside marks n m = IsInside marks m → IsInside marks n

-- the marks are right at a node with this instruction: what uses the slot stands where it is entered, and behind a node it is entered only where it was
-- before, or the node enters it; behind one that leaves it, it isn't
abbrev pub FitsMarks : List ℕ → ℕ → Instr → Type 0
FitsMarks marks n (Enter what) = Unit {0}
FitsMarks marks n (AddrSlot to slot) = IsInside marks n
FitsMarks marks n (Leave slot) = IsInside marks n × (is_marked marks (n + 1) ≡ false)
FitsMarks marks n (If op ty a b yes_side no_side) = StaysInside marks n yes_side.0 × StaysInside marks n no_side.0
FitsMarks marks n (Jump next) = StaysInside marks n next.0
FitsMarks marks n (Return value) = Unit {0}
FitsMarks marks n (Never reason) = Unit {0}
FitsMarks marks n i = StaysInside marks n (n + 1)

-- at the first k nodes
abbrev pub AreMarksUpTo : List ℕ → List Node → ℕ → Type 0
AreMarksUpTo marks nodes k = (n : ℕ) (node : Node) → n < k → slice_get nodes n ≡ Some node → FitsMarks marks n node.instr

pub record AreMarks (marks : List ℕ) (nodes : List Node) : Type 0 where
  pub first : is_marked marks 0 ≡ false
  pub each : (n : ℕ) (node : Node) → slice_get nodes n ≡ Some node → FitsMarks marks n node.instr

-- ---- functions and projects

pub record IsBareFunction (functions : ℕ) (f : Function) : Type 0 where
  pub regs : f.graph.regs ≡ three_registers
  pub slots : f.graph.slots ≡ int_slot ∷ []
  pub params : f.graph.params ≡ 1
  pub result : f.result.text ≡ codes "i32"
  pub instructions : All (λ (n : Node). IsBare functions (length f.graph.nodes) n.instr) f.graph.nodes
  pub last : EndsLast f.graph.nodes
  pub marks : List ℕ
  pub marked : AreMarks marks f.graph.nodes

pub record IsBareProject (p : Project) : Type 0 where
  pub functions : All (IsBareFunction (length p.functions)) p.functions
  pub globals : p.globals ≡ []
  pub texts : p.texts ≡ []
  pub effects : AreEffects (library_effects signatures) p p.effects
