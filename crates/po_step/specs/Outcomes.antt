-- What the outcomes of library calls are given for, and what they keep.
use Rattle.std.specs.Prelude.{ℕ, ◌≡◌, List, All, Some, slice_get}
use Rattle.po_base.specs.declared.numbers.LibNo.{LibNo}
use Rattle.po_base.specs.declared.operand.Opnd.{Opnd}
use Rattle.po_ir.specs.declared.project.Project.{Project}
use Rattle.po_ir.specs.Whole.{Signature}
use Rattle.po_memory.specs.declared.block.Block.{Block}
use Rattle.po_memory.specs.declared.value.Value.{Value}
use Rattle.po_memory.specs.Holding.{Holds}
use Rattle.po_gen.specs.Asks.{Required}
use Rattle.po_meaning.specs.declared.state.Ending.{Ending}
use Rattle.po_meaning.specs.declared.state.Ending.TheVariants.{Next, Stop}
use Rattle.po_meaning.specs.Operands.{ArePassed}
use Rattle.po_meaning.specs.States.{State}
use Rattle.po_meaning.specs.Belongs.{Belongs}
use Rattle.po_meaning.specs.Staying.{OutcomeFits}

-- a call of a library function on these values in a state of the project, in which all that the call asks holds
pub record IsCalled (required : Required) (signatures : List Signature) (p : Project) (lib : LibNo) (values : List Value) (blocks : List Block) : Type 0 where
  pub state : State
  pub belongs : Belongs p state
  pub memory : state.memory ≡ blocks
  pub signature : Signature
  pub is_there : slice_get signatures lib.0 ≡ Some signature
  pub args : List Opnd
  pub strings : List ℕ
  pub passed : ArePassed state.top signature.params args values
  pub held : All (Holds state.top state.memory) (required lib args strings)

-- what a call has to keep: one that ends the run changes nothing
abbrev pub Keeps : Project → Signature → List Block → Ending → List Block → Type 0
Keeps p signature before (Next result) after = OutcomeFits p signature before result after
Keeps p signature before Stop after = after ≡ before
