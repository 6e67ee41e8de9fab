-- The steps from states that belong to a project, and what a library's function has to keep.
use Rattle.std.specs.Prelude.{ℕ, ◌≡◌, ◌≤◌, ◌<◌, false, true, List, All, Option, Some, None, length, slice_get}
use Rattle.po_base.specs.declared.numbers.LibNo.{LibNo}
use Rattle.po_base.specs.declared.numbers.RegNo.{RegNo}
use Rattle.po_base.specs.declared.operand.Opnd.{Opnd}
use Rattle.po_arith.specs.declared.target.Target.{Target}
use Rattle.po_ir.specs.declared.instr.Ty.{Ty}
use Rattle.po_ir.specs.declared.instr.Instr.{Instr}
use Rattle.po_ir.specs.declared.instr.Instr.TheVariants.{Lib}
use Rattle.po_ir.specs.declared.project.Function.{Function}
use Rattle.po_ir.specs.declared.project.Project.{Project}
use Rattle.po_ir.specs.Whole.{Signature, IsWhole, greatest_size}
use Rattle.po_core.specs.declared.report.Report.{Report}
use Rattle.po_pred.specs.declared.pred.Pred.{Pred}
use Rattle.po_pred.specs.declared.pred.Rule.{Rule}
use Rattle.po_memory.specs.declared.block.Block.{Block}
use Rattle.po_memory.specs.declared.value.Value.{Value}
use Rattle.po_memory.specs.Bytes.{LiesIn}
use Rattle.po_memory.specs.Since.{Since}
use Rattle.po_gen.specs.Asks.{Required}
use Rattle.po_meaning.specs.Operands.{receive}
use Rattle.po_meaning.specs.States.{State, StandsAt}
use Rattle.po_meaning.specs.Steps.{Moves}
use Rattle.po_meaning.specs.Checks.{AllHold}
use Rattle.po_meaning.specs.Belongs.{static_blocks, PointsThere, IsPartThere, Belongs}

-- a step that calls no library function, from a state that belongs to a whole project and in which all obligations hold, leads to one
-- that belongs to it
abbrev pub StepsStay : Type 0
StepsStay =
    (required : Required) (library : List Signature) (p : Project) (r : Report Pred Rule) (f : Function) (i : Instr) (s u : State) → IsWhole library p → StandsAt p s.top f i →
    AllHold required p r s → Moves p f i s u → Belongs p s → Belongs p u

-- ---- the library

-- of so many first blocks those that aren't writable keep their bytes (6.4.5p6, 6.7.3p5)
abbrev pub AreUnwritten : ℕ → List Block → List Block → Type 0
AreUnwritten statics before after = (b : ℕ) (c : Block) → b < statics → slice_get before b ≡ Some c → c.writable ≡ false → (d : Block) × (slice_get after b ≡ Some d) × (d.bytes ≡ c.bytes)

-- a function of this result returns this
abbrev pub IsOutcome : Target → Option Ty → List Block → Option Value → Type 0
IsOutcome target None after result = result ≡ None
IsOutcome target (Some t) after result = (v : Value) × (result ≡ Some v) × LiesIn t v × PointsThere target after v

-- what a call of a library function has to keep: it ends blocks from malloc or calloc alone, and changes no literal and no constant
-- global; its result is one of its type
pub record OutcomeFits (p : Project) (signature : Signature) (before : List Block) (result : Option Value) (after : List Block) : Type 0 where
  pub since : Since true true before after
  pub unwritten : AreUnwritten (static_blocks p) before after
  pub sizes : All (λ (c : Block). length c.bytes ≤ greatest_size) after
  pub parts : All (λ (c : Block). All (IsPartThere p.target after) c.bytes) after
  pub value : IsOutcome p.target signature.result after result

-- a call of a library function that keeps this leads to a state that belongs to the project
abbrev pub LibraryStepsStay : Type 0
LibraryStepsStay =
    (library : List Signature) (p : Project) (f : Function) (to : Option RegNo) (lib : LibNo) (args : List Opnd) (strings : List ℕ) (signature : Signature) (result : Option Value) (s u : State) → IsWhole library p →
    StandsAt p s.top f (Lib to lib args strings) → slice_get library lib.0 ≡ Some signature → OutcomeFits p signature s.memory result u.memory → u.top ≡ receive to result s.top → u.rest ≡ s.rest → Belongs p s → Belongs p u
