-- Each choice of arguments that meets what is assumed starts a run.
use Rattle.std.proofs.Common.{◌≡◌, ℕ, List, [], length, refl}
use Rattle.std.specs.Prelude.{Some, All, slice_get}
use Rattle.po_ir.specs.declared.project.Function.{Function}
use Rattle.po_ir.specs.declared.project.Project.{Project}
use Rattle.po_core.specs.declared.report.Report.{Report}
use Rattle.po_pred.specs.declared.pred.Pred.{Pred}
use Rattle.po_app.specs.declared.rule.Rule.{Rule}
use Rattle.po_app.specs.Meaning.{Value, start_frame}
use Rattle.po_app.specs.Sound.{IsInt, Meets, Starts}

pub starts : (p : Project) (r : Report Pred Rule) (f : ℕ) (g : Function) (args : List Value) → slice_get p.functions f ≡ Some g → length args ≡ g.graph.params → All IsInt args → Meets r (start_frame f g args) →
    Starts p r (record { top = start_frame f g args; rest = [] })
starts p r f g args there counted ints meets = record { function = g; is_there = there; first = refl; counted = counted; ints = ints; meets = meets; alone = refl }
