-- Soundness of a report: what a run violates first is listed as open.
use Rattle.std.specs.Prelude.{ℕ, ◌≡◌, [], All, Contains, length, slice_get, Some}
use Rattle.po_base.specs.declared.numbers.FunNo.{FunNo}
use Rattle.po_ir.specs.declared.project.Function.{Function}
use Rattle.po_ir.specs.declared.project.Project.{Project}
use Rattle.po_core.specs.declared.obl.Obl.{Obl}
use Rattle.po_core.specs.declared.obl.Verdict.TheVariants.{Open}
use Rattle.po_core.specs.declared.report.Report.{Report}
use Rattle.po_pred.specs.declared.pred.Pred.{Pred}
use Rattle.po_app.specs.declared.rule.Rule.{Rule}
use Rattle.po_app.specs.Predicates.{IsOfType}
use Rattle.po_app.specs.Meaning.{Value, number, Frame, State, Holds, start_frame, Violates, Run}

-- a number of the type int
abbrev pub IsInt : Value → Type 0
IsInt (number v) = IsOfType 32 v

-- the frame meets what the report assumes of its function
abbrev pub Meets : Report Pred Rule → Frame → Type 0
Meets r frame = (f : FunNo) (q : Pred) → Contains r.assumptions (f, q) → f.0 ≡ frame.fun → Holds frame q

-- a call of any function of the project, at its first node; its arguments are any numbers of the type int, one for each
-- parameter, that meet what the report assumes of the function
pub record Starts (p : Project) (r : Report Pred Rule) (s : State) : Type 0 where
  pub function : Function
  pub is_there : slice_get p.functions s.top.fun ≡ Some function
  pub first : s.top ≡ start_frame s.top.fun function s.top.args
  pub counted : length s.top.args ≡ function.graph.params
  pub ints : All IsInt s.top.args
  pub meets : Meets r s.top
  pub alone : s.rest ≡ []

-- in every run of any number of steps, the obligation that is violated first is listed as open
abbrev pub Sound : Project → Report Pred Rule → Type 0
Sound p r = (n : ℕ) (s u : State) (o : Obl Pred) → Starts p r s → Run p r n s u → Violates p r u o → Contains r.lines (o, Open)
