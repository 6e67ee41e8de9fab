-- Steps, runs and their ends.
use Rattle.std.specs.Prelude.{ℕ, zero, suc, ◌≡◌, ◌⊎◌, List}
use Rattle.po_ir.specs.declared.instr.Instr.{Instr}
use Rattle.po_ir.specs.declared.instr.Instr.TheVariants.{Lib}
use Rattle.po_ir.specs.declared.project.Function.{Function}
use Rattle.po_ir.specs.declared.project.Project.{Project}
use Rattle.po_core.specs.declared.obl.Obl.{Obl}
use Rattle.po_core.specs.declared.report.Report.{Report}
use Rattle.po_memory.specs.declared.block.Block.{Block}
use Rattle.po_pred.specs.declared.pred.Pred.{Pred}
use Rattle.po_pred.specs.declared.pred.Rule.{Rule}
use Rattle.po_meaning.specs.declared.state.Ending.TheVariants.{Stop}
use Rattle.po_meaning.specs.Library.{Library}
use Rattle.po_meaning.specs.States.{State, StandsAt}
use Rattle.po_meaning.specs.Steps.{LibraryEnds, StepOf, IsLast}
use Rattle.po_meaning.specs.Checks.{AllHold, FirstViolated}

-- one step: all obligations at the node hold, and the instruction goes on
pub record Step (l : Library) (p : Project) (r : Report Pred Rule) (s u : State) : Type 0 where
  pub function : Function
  pub instr : Instr
  pub here : StandsAt p s.top function instr
  pub held : AllHold l.required p r s
  pub goes : StepOf l p function instr s u

-- a run of n steps
abbrev pub Run : Library → Project → Report Pred Rule → ℕ → State → State → Type 0
Run l p r zero s u = s ≡ u
Run l p r (suc n) s u = (v : State) × Step l p r s v × Run l p r n v u

-- an instruction at which the run ends: a return for which no frame waits, and a library call that stops it (6.8.6.4, 7.20.4)
abbrev pub IsEnd : Library → Instr → State → Type 0
IsEnd l (Lib to lib args strings) s = (after : List Block) × LibraryEnds l lib args s Stop after
IsEnd l i s = IsLast i s

-- the run ends here: all obligations hold
pub record Ends (l : Library) (p : Project) (r : Report Pred Rule) (s : State) : Type 0 where
  pub function : Function
  pub instr : Instr
  pub here : StandsAt p s.top function instr
  pub held : AllHold l.required p r s
  pub ends : IsEnd l instr s

-- the run isn't stuck here: an obligation is violated, a next state follows, or the run ends
abbrev pub GoesOn : Library → Project → Report Pred Rule → State → Type 0
GoesOn l p r s = ((o : Obl Pred) × FirstViolated l.required p r s o) ⊎ (((u : State) × Step l p r s u) ⊎ Ends l p r s)
