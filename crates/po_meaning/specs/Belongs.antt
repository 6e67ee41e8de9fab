-- The states that belong to a project, and those in which a run starts.
use Rattle.std.specs.Prelude.{ℕ, ◌+◌, ◌*◌, ◌≡◌, ◌≢◌, ◌≤◌, ◌<◌, ℤ, List, [], ◌∷◌, ◌++◌, All, true, false, not, Option, Some, length, map, take, slice_get}
use Rattle.po_base.specs.declared.numbers.FunNo.{FunNo}
use Rattle.po_base.specs.declared.numbers.RegNo.{RegNo}
use Rattle.po_base.specs.declared.numbers.SlotNo.{SlotNo}
use Rattle.po_base.specs.declared.operand.Opnd.{Opnd}
use Rattle.po_arith.specs.declared.target.Target.{Target}
use Rattle.po_ir.specs.declared.graph.Reg.{Reg as Register}
use Rattle.po_ir.specs.declared.graph.Slot.{Slot}
use Rattle.po_ir.specs.declared.instr.Ty.{Ty}
use Rattle.po_ir.specs.declared.instr.Ty.TheVariants.{Ptr}
use Rattle.po_ir.specs.declared.instr.Callee.TheVariants.{Fun}
use Rattle.po_ir.specs.declared.instr.Instr.TheVariants.{Call}
use Rattle.po_ir.specs.declared.project.Function.{Function}
use Rattle.po_ir.specs.declared.project.Global.{Global}
use Rattle.po_ir.specs.declared.project.Project.{Project}
use Rattle.po_ir.specs.Paths.{Reachable}
use Rattle.po_ir.specs.Types.{size_of}
use Rattle.po_ir.specs.Whole.{greatest_size, IsUnread, IsTemporary, parameter_types}
use Rattle.po_memory.specs.declared.block.Block.{Block}
use Rattle.po_memory.specs.declared.frame.Frame.{Frame}
use Rattle.po_memory.specs.declared.value.Byte.{Byte}
use Rattle.po_memory.specs.declared.value.Byte.TheVariants as byte
use Rattle.po_memory.specs.declared.value.Value.{Value}
use Rattle.po_memory.specs.declared.value.Value.TheVariants.{Number, Null, Pointer, Wild}
use Rattle.po_memory.specs.Blocks.{IsOfWidth}
use Rattle.po_memory.specs.Bytes.{LiesIn}
use Rattle.po_memory.specs.Values.{register_value}
use Rattle.po_meaning.specs.Operands.{slot_block}
use Rattle.po_meaning.specs.States.{State, frames, IsOf, StandsAt, start_frame}
use Rattle.po_meaning.specs.Needs.{NeedsRegister, NeedsSlot}

-- ---- frames

-- the frame names a node that is reached from the start of its function, and its lists have the project's lengths; a function
-- that isn't read takes any number of arguments
pub record HasPlace (f : Function) (frame : Frame) : Type 0 where
  pub node : Reachable f.graph frame.node.0
  pub registers : length frame.regs ≡ length f.graph.regs
  pub slots : length frame.slots ≡ length f.graph.slots
  pub arguments : (IsUnread f → ⊥) → length frame.args ≡ f.graph.params

-- all values lie in their types
pub record HasTypes (f : Function) (frame : Frame) : Type 0 where
  pub registers : (r : ℕ) (register : Register) (v : Value) → slice_get f.graph.regs r ≡ Some register → register_value frame r ≡ Some v → LiesIn register.ty v
  pub arguments : (i : ℕ) (t : Ty) (v : Value) → slice_get (parameter_types f) i ≡ Some t → slice_get frame.args i ≡ Some v → LiesIn t v

abbrev pub HasSome : {X : Type 0} → Option X → Type 0
HasSome {X} x = (y : X) × (x ≡ Some y)

-- a parameter's register has a value, and a temporary has one where some way on reads it before it writes it
pub record HasValues (f : Function) (frame : Frame) : Type 0 where
  pub parameters : (r : ℕ) (register : Register) → slice_get f.graph.regs r ≡ Some register → register.param ≡ true → HasSome (register_value frame r)
  pub temporaries : (r : RegNo) → IsTemporary f.graph r → NeedsRegister f.graph r frame.node.0 → HasSome (register_value frame r.0)

-- a slot is entered where some way on uses it before it enters it
abbrev pub HasSlots : Function → Frame → Type 0
HasSlots f frame = (s : SlotNo) → NeedsSlot f.graph s frame.node.0 → HasSome (slot_block frame s.0)

-- what holds of each frame by itself
pub record FrameBelongs (p : Project) (frame : Frame) : Type 0 where
  pub function : Function
  pub of : IsOf p frame function
  pub place : HasPlace function frame
  pub types : HasTypes function frame
  pub values : HasValues function frame
  pub slots : HasSlots function frame

-- the frame stands at a call of the function n
abbrev pub Calls : Project → Frame → FunNo → Type 0
Calls p frame n = (f : Function) × (to : Option RegNo) × (args : List Opnd) × (strings : List ℕ) × StandsAt p frame f (Call to (Fun n) args strings)

-- each frame that waits stands at a call of the function of the frame for which it waits
abbrev pub Wait : Project → FunNo → List Frame → Type 0
Wait p n [] = Unit {0}
Wait p n (frame ∷ rest) = Calls p frame n × Wait p frame.function rest

-- ---- slots

-- how many blocks stand first: those of the globals and of the literals
abbrev pub static_blocks : Project → ℕ
static_blocks p = length p.globals + length p.texts

-- the block of an entered slot
pub record IsOfSlot (p : Project) (slot : Slot) (b : ℕ) (c : Block) : Type 0 where
  pub size : length c.bytes ≡ slot.size
  pub align : slot.align ≤ c.align
  pub alive : c.alive ≡ true
  pub writable : c.writable ≡ not slot.constant
  pub heap : c.heap ≡ false
  pub own : static_blocks p ≤ b

-- the frame at this place has entered the slot with this block
abbrev pub HasEntered : State → ℕ → ℕ → ℕ → Type 0
HasEntered s k slot b = (frame : Frame) × (slice_get (frames s) k ≡ Some frame) × (slot_block frame slot ≡ Some b)

-- the slots that are entered have blocks of their own
pub record SlotsBelong (p : Project) (s : State) : Type 0 where
  pub blocks : (frame : Frame) (f : Function) (k slot b : ℕ) (is : Slot) → slice_get (frames s) k ≡ Some frame → IsOf p frame f → slice_get f.graph.slots slot ≡ Some is → slot_block frame slot ≡ Some b →
      (c : Block) × (slice_get s.memory b ≡ Some c) × IsOfSlot p is b c
  pub apart : (k l slot other b : ℕ) → HasEntered s k slot b → HasEntered s l other b → (k ≡ l) × (slot ≡ other)

-- ---- globals and literals

abbrev pub IsFull : Block → Type 0
IsFull c = (i : ℕ) → slice_get c.bytes i ≢ Some byte.Blank

-- the block of a global: it may be larger than is known here (6.2.7)
pub record IsOfGlobal (g : Global) (c : Block) : Type 0 where
  pub size : g.size ≤ length c.bytes
  pub align : g.align ≤ c.align
  pub alive : c.alive ≡ true
  pub writable : c.writable ≡ not g.constant
  pub heap : c.heap ≡ false
  pub full : IsFull c

-- the bytes of a literal with the zero byte at its end (6.4.5p5)
abbrev pub ended : List ℕ → List Byte
ended text = map byte.Number text ++ byte.Number 0 ∷ []

-- the block of a literal (6.4.5p5, p6)
pub record IsOfLiteral (text : List ℕ) (c : Block) : Type 0 where
  pub bytes : take (length text + 1) c.bytes ≡ ended text
  pub align : 1 ≤ c.align
  pub alive : c.alive ≡ true
  pub writable : c.writable ≡ false
  pub heap : c.heap ≡ false
  pub full : IsFull c

-- the first blocks are those of the globals, and the next those of the literals, one each in their order
pub record StaticsBelong (p : Project) (memory : List Block) : Type 0 where
  pub globals : (k : ℕ) (g : Global) → slice_get p.globals k ≡ Some g → (c : Block) × (slice_get memory k ≡ Some c) × IsOfGlobal g c
  pub literals : (k : ℕ) (text : List ℕ) → slice_get p.texts k ≡ Some text → (c : Block) × (slice_get memory (length p.globals + k) ≡ Some c) × IsOfLiteral text c

-- ---- pointers

-- a place in a block that is there, with an offset of as many bits as a pointer has
pub record IsThere (target : Target) (memory : List Block) (block : ℕ) (offset : ℤ) : Type 0 where
  pub block_there : block < length memory
  pub offset_fits : IsOfWidth (8 * size_of target Ptr) offset

abbrev pub PointsThere : Target → List Block → Value → Type 0
PointsThere target memory (Pointer block offset) = IsThere target memory block offset
PointsThere target memory (Number v) = Unit {0}
PointsThere target memory Null = Unit {0}
PointsThere target memory Wild = Unit {0}

abbrev pub IsPartThere : Target → List Block → Byte → Type 0
IsPartThere target memory (byte.Part block offset k) = IsThere target memory block offset
IsPartThere target memory byte.Blank = Unit {0}
IsPartThere target memory (byte.Number n) = Unit {0}

-- the pointers of a frame
pub record FramePoints (target : Target) (memory : List Block) (frame : Frame) : Type 0 where
  pub registers : (r : ℕ) (v : Value) → register_value frame r ≡ Some v → PointsThere target memory v
  pub arguments : All (PointsThere target memory) frame.args

-- those of all frames, and those whose parts stand in a block
pub record PointersBelong (p : Project) (s : State) : Type 0 where
  pub frames_point : All (FramePoints p.target s.memory) (frames s)
  pub blocks_point : All (λ (c : Block). All (IsPartThere p.target s.memory) c.bytes) s.memory

-- ---- states

-- the state is one of the project
pub record Belongs (p : Project) (s : State) : Type 0 where
  pub each_frame : All (FrameBelongs p) (frames s)
  pub waiting : Wait p s.top.function s.rest
  pub slots : SlotsBelong p s
  pub sizes : All (λ (c : Block). length c.bytes ≤ greatest_size) s.memory
  pub statics : StaticsBelong p s.memory
  pub pointers : PointersBelong p s

-- a run starts here: in one frame of any function at node 0, with any arguments and any memory that belong to the project
pub record Starts (p : Project) (s : State) : Type 0 where
  pub function : Function
  pub of : IsOf p s.top function
  pub first : s.top ≡ start_frame s.top.function function s.top.args
  pub alone : s.rest ≡ []
  pub belongs : Belongs p s
