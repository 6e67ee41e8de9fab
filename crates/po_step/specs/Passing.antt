-- Operands that are passed, one at a time. Private clauses alone cite these words.
use Rattle.std.specs.Prelude.{ℕ, ◌≡◌, ◌<◌, List, Option, Some, None, length, slice_get}
use Rattle.po_base.specs.declared.numbers.RegNo.{RegNo}
use Rattle.po_base.specs.declared.operand.Opnd.{Opnd}
use Rattle.po_ir.specs.declared.instr.Callee.{Callee}
use Rattle.po_ir.specs.declared.instr.Instr.{Instr}
use Rattle.po_ir.specs.declared.instr.Instr.TheVariants.{Call}
use Rattle.po_ir.specs.declared.instr.Ty.{Ty}
use Rattle.po_ir.specs.declared.project.Function.{Function}
use Rattle.po_ir.specs.declared.project.Project.{Project}
use Rattle.po_memory.specs.declared.block.Block.{Block}
use Rattle.po_memory.specs.declared.frame.Frame.{Frame}
use Rattle.po_memory.specs.declared.value.Value.{Value}
use Rattle.po_memory.specs.Passing.{HasValue}
use Rattle.po_meaning.specs.Operands.{value_at, ArePassed}
use Rattle.po_meaning.specs.States.{StandsAt}
use Rattle.po_meaning.specs.Steps.{Returned}

-- the operand has this value, at the type of its parameter where there is one
abbrev pub IsPassedAs : Frame → Option Ty → Opnd → Value → Type 0
IsPassedAs frame None a v = HasValue frame a v
IsPassedAs frame (Some t) a v = value_at frame t a ≡ Some v

-- the first operands have these values
pub record ArePassedUpTo (frame : Frame) (types : List Ty) (args : List Opnd) (k : ℕ) (values : List Value) : Type 0 where
  pub count : length values ≡ k
  pub each : (j : ℕ) (a : Opnd) (v : Value) → slice_get args j ≡ Some a → slice_get values j ≡ Some v → IsPassedAs frame (slice_get types j) a v

-- the operands have some values
abbrev pub CanPass : Frame → List Ty → List Opnd → Type 0
CanPass frame types args = (values : List Value) × ArePassed frame types args values

-- a return gives some value, or none
abbrev pub CanReturn : Function → Frame → Option Opnd → Type 0
CanReturn f frame value = (result : Option Value) × Returned f frame value result

-- the frame stands at a call whose result this register gets
pub record Receives (p : Project) (caller : Frame) (to : Option RegNo) : Type 0 where
  pub calling : Function
  pub callee : Callee
  pub args : List Opnd
  pub strings : List ℕ
  pub calls : StandsAt p caller calling (Call to callee args strings)

-- the block of each slot that is entered is there
abbrev pub HaveBlocks : List (Option ℕ) → List Block → Type 0
HaveBlocks slots m = (s b : ℕ) → slice_get slots s ≡ Some (Some b) → b < length m

-- the instruction is a call whose result this register gets
abbrev pub IsCallInto : Instr → Option RegNo → Type 0
IsCallInto i to = (callee : Callee) × (args : List Opnd) × (strings : List ℕ) × (i ≡ Call to callee args strings)

abbrev pub IsCall : Instr → Type 0
IsCall i = (to : Option RegNo) × IsCallInto i to
