-- That no state of a project is stuck.
use Rattle.std.specs.Prelude.{ℕ, ◌≡◌, ◌⊎◌, List, Option, Some, slice_get}
use Rattle.po_base.specs.declared.numbers.LibNo.{LibNo}
use Rattle.po_base.specs.declared.numbers.RegNo.{RegNo}
use Rattle.po_base.specs.declared.operand.Opnd.{Opnd}
use Rattle.po_ir.specs.declared.instr.Instr.{Instr}
use Rattle.po_ir.specs.declared.instr.Instr.TheVariants.{Lib}
use Rattle.po_ir.specs.declared.project.Function.{Function}
use Rattle.po_ir.specs.declared.project.Project.{Project}
use Rattle.po_ir.specs.Whole.{Signature, IsWhole}
use Rattle.po_core.specs.declared.obl.Obl.{Obl}
use Rattle.po_core.specs.declared.report.Report.{Report}
use Rattle.po_pred.specs.declared.pred.Pred.{Pred}
use Rattle.po_pred.specs.declared.pred.Rule.{Rule}
use Rattle.po_memory.specs.declared.frame.Frame.{Frame}
use Rattle.po_memory.specs.declared.value.Value.{Value}
use Rattle.po_memory.specs.Holding.{Holds}
use Rattle.po_gen.specs.Asks.{Required}
use Rattle.po_meaning.specs.Operands.{ArePassed}
use Rattle.po_meaning.specs.States.{State, StandsAt}
use Rattle.po_meaning.specs.Steps.{Moves, IsLast}
use Rattle.po_meaning.specs.Checks.{Asked, asked, AllHold, FirstViolated}
use Rattle.po_meaning.specs.Belongs.{Belongs}

abbrev pub IsDecided : Type 0 → Type 0
IsDecided P = P ⊎ (P → ⊥)

-- where it is decided of each obligation whether it holds, one is violated first, or all hold
abbrev pub OneOrAll : Type 0
OneOrAll =
    (required : Required) (p : Project) (r : Report Pred Rule) (s : State) → ((j : ℕ) (a : Asked) → slice_get (asked required p r s) j ≡ Some a → IsDecided (Holds s.top s.memory a.1)) →
    ((o : Obl Pred) × FirstViolated required p r s o) ⊎ AllHold required p r s

-- a next state, or the end of the run
abbrev pub Follows : Project → Function → Instr → State → Type 0
Follows p f i s = ((u : State) × Moves p f i s u) ⊎ IsLast i s

abbrev pub CallsLibrary : Instr → Type 0
CallsLibrary (Lib to lib args strings) = Unit {0}
CallsLibrary i = ⊥

-- where all obligations hold in a state that belongs to a whole project, and no library function is called, a state follows, or the
-- run ends
abbrev pub StatesFollow : Type 0
StatesFollow =
    (required : Required) (library : List Signature) (p : Project) (r : Report Pred Rule) (f : Function) (i : Instr) (s : State) → IsWhole library p → StandsAt p s.top f i → AllHold required p r s → Belongs p s →
    (CallsLibrary i → ⊥) → Follows p f i s

-- the library has this function, and the operands of a call of it have values
pub record IsPassedTo (library : List Signature) (frame : Frame) (lib : LibNo) (args : List Opnd) : Type 0 where
  pub signature : Signature
  pub is_there : slice_get library lib.0 ≡ Some signature
  pub values : List Value
  pub passed : ArePassed frame signature.params args values

-- so a call of a library function goes on, or ends the run, wherever the library has an outcome for these values
abbrev pub LibraryCallsPass : Type 0
LibraryCallsPass =
    (required : Required) (library : List Signature) (p : Project) (r : Report Pred Rule) (f : Function) (to : Option RegNo) (lib : LibNo) (args : List Opnd) (strings : List ℕ) (s : State) → IsWhole library p →
    StandsAt p s.top f (Lib to lib args strings) → AllHold required p r s → Belongs p s → IsPassedTo library s.top lib args
