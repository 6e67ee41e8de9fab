-- What a step by code is.
use Rattle.std.specs.Prelude.{ℕ, ◌≡◌, Bool, true, false, List, [], Option, reverse}
use Rattle.po_base.specs.declared.numbers.FunNo.{FunNo}
use Rattle.po_base.specs.declared.numbers.NodeNo.{NodeNo}
use Rattle.po_base.specs.declared.operand.Opnd.{Opnd}
use Rattle.po_core.specs.declared.obl.Obl.{Obl}
use Rattle.po_core.specs.declared.report.Report.{Report}
use Rattle.po_ir.specs.declared.instr.Instr.{Instr}
use Rattle.po_ir.specs.declared.instr.Instr.TheVariants.{Call, Lib, Return}
use Rattle.po_ir.specs.declared.project.Function.{Function}
use Rattle.po_ir.specs.declared.project.Project.{Project}
use Rattle.po_ir.specs.Whole.{Signature, IsWhole}
use Rattle.po_memory.specs.declared.block.Block.{Block}
use Rattle.po_memory.specs.declared.frame.Frame.{Frame}
use Rattle.po_pred.specs.declared.pred.Pred.{Pred}
use Rattle.po_pred.specs.declared.pred.Rule.{Rule}
use Rattle.po_gen.specs.Asks.{Required}
use Rattle.po_meaning.specs.declared.state.State.{State as Stored}
use Rattle.po_meaning.specs.Library.{Library, Outcomes}
use Rattle.po_meaning.specs.States.{State, StandsAt}
use Rattle.po_meaning.specs.Steps.{Moves, StepOf, Returns, IsLast}
use Rattle.po_meaning.specs.Checks.{AllHold, FirstViolated}
use Rattle.po_meaning.specs.Belongs.{Belongs}
use Rattle.po_meaning.specs.Runs as runs
use Rattle.po_meaning.specs.Runs.{Ends, IsEnd}
use Rattle.po_meaning.specs.Shown.{Shows}
use Rattle.po_step.specs.declared.step.Step.{Step}
use Rattle.po_step.specs.declared.step.Step.TheVariants.{Next, Ended, Violated}

abbrev pub library_of : List Signature → Required → Outcomes → Library
library_of signatures required outcomes = record { signatures = signatures; required = required; outcomes = outcomes }

-- the state of a running frame, of those that wait for it, the last one last, and of all blocks
abbrev pub state_of : Frame → List Frame → List Block → State
state_of top waiting m = record { top = top; rest = reverse waiting; memory = m }

-- the code's state is one of the project
pub record IsStateOf (p : Project) (stored : Stored) : Type 0 where
  pub state : State
  pub shown : Shows stored state
  pub belongs : Belongs p state

-- the obligation at this place of the node is the first that doesn't hold
pub record IsViolatedAt (required : Required) (p : Project) (r : Report Pred Rule) (s : State) (f : FunNo) (n : NodeNo) (index : ℕ) : Type 0 where
  pub obligation : Obl Pred
  pub first : FirstViolated required p r s obligation
  pub place : first.place ≡ index
  pub function : s.top.function ≡ f
  pub node : s.top.node ≡ n

-- what a step answers of the state s, where the state u is left behind
abbrev pub Answers : Library → Project → Report Pred Rule → State → Step → State → Type 0
Answers l p r s Next u = runs.Step l p r s u
Answers l p r s Ended u = (u ≡ s) × Ends l p r s
Answers l p r s (Violated f n index) u = (u ≡ s) × IsViolatedAt l.required p r s f n index

-- and that the state that is left behind is one of the project
abbrev pub AnswersIn : Library → Project → Report Pred Rule → State → Step → State → Type 0
AnswersIn l p r s step u = Answers l p r s step u × Belongs p u

-- the same of the states of the code
pub record IsStep (l : Library) (p : Project) (r : Report Pred Rule) (before : Stored) (step : Step) (after : Stored) : Type 0 where
  pub old : State
  pub new : State
  pub old_shown : Shows before old
  pub new_shown : Shows after new
  pub answers : AnswersIn l p r old step new

-- ---- instructions that are carried out

-- the frame stands at the instruction, and all obligations there hold
pub record IsReadyAt (required : Required) (signatures : List Signature) (p : Project) (f : Function) (i : Instr) (s : State) : Type 0 where
  pub report : Report Pred Rule
  pub whole : IsWhole signatures p
  pub stands : StandsAt p s.top f i
  pub held : AllHold required p report s
  pub belongs : Belongs p s

-- the state u follows, and is one of the project
abbrev pub Moved : Project → Function → Instr → State → State → Type 0
Moved p f i s u = Moves p f i s u × Belongs p u

-- or the run ends
abbrev pub MovedOrEnded : Project → Function → Instr → State → Step → State → Type 0
MovedOrEnded p f i s Next u = Moved p f i s u
MovedOrEnded p f i s Ended u = (u ≡ s) × IsLast i s
MovedOrEnded p f i s (Violated g n index) u = ⊥

-- the same, also of calls of the library
abbrev pub Carries : Library → Project → Function → Instr → State → Step → State → Type 0
Carries l p f i s Next u = StepOf l p f i s u × Belongs p u
Carries l p f i s Ended u = (u ≡ s) × IsEnd l i s
Carries l p f i s (Violated g n index) u = ⊥

-- a return, or nothing where no frame waits
abbrev pub ReturnsOrEnds : Bool → Project → Function → Option Opnd → State → State → Type 0
ReturnsOrEnds true p f value s u = Returns p f value s u
ReturnsOrEnds false p f value s u = (u ≡ s) × (s.rest ≡ [])

-- an instruction that neither calls nor returns
abbrev pub StaysInFrame : Instr → Type 0
StaysInFrame (Call to callee args strings) = ⊥
StaysInFrame (Lib to lib args strings) = ⊥
StaysInFrame (Return value) = ⊥
StaysInFrame i = Unit {0}
