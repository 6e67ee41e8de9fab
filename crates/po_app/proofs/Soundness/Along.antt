-- A report that is closed under the rules is sound, and so is the least one.
use Rattle.std.proofs.Common.{ℕ, ◌∷◌, sym, subst, inl, refl}
use Rattle.std.specs.Prelude.{List, All}
use Rattle.po_ir.specs.declared.project.Project.{Project}
use Rattle.po_straight.specs.declared.definition.Definition.{Definition}
use Rattle.po_straight.specs.Definitions.{IsFile}
use Rattle.po_lists.proofs.Members.{Has}
use Rattle.po_core.specs.declared.report.Report.{Report}
use Rattle.po_pred.specs.declared.pred.Pred.{Pred}
use Rattle.po_app.specs.declared.rule.Rule.{Rule}
use Rattle.po_app.specs.Lowering.{IsProject}
use Rattle.po_app.specs.Obligations.{Asked}
use Rattle.po_app.specs.Closed.{IsReport, IsClosedReport}
use Rattle.po_app.specs.Meaning.{State, asked, Run}
use Rattle.po_app.specs.Sound.{Meets, Starts, Sound}
use Rattle.po_app.proofs.Soundness.Members.{has_right}
use Rattle.po_app.proofs.Soundness.Frames.{straight, holds_start, holds_run}
use Rattle.po_app.proofs.Soundness.Listed.{listed_open}
use Rattle.po_app.proofs.Soundness.Meeting.{meets_start, meets_run, all_meet}
use Rattle.po_app.proofs.Soundness.Least.{least_closed}

pub closed_sound : (name bytes : List ℕ) (ds : List Definition) (p : Project) (r : Report Pred Rule) → IsFile ds bytes → IsProject name ds p → IsClosedReport p r → Sound p r
closed_sound name bytes ds p r file project closed n s u o start run v =
    let are_straight = straight name bytes ds p file project in
    let first = holds_start p are_straight r s start in
    let h = holds_run p are_straight r n s u run first in
    let m = meets_run p are_straight r closed n s u run first (meets_start p r s start) in
    let a : Asked = (o, v.pred) in
    let there : Has (asked p r u) a = subst (λ (list : List Asked). Has list a) (sym v.checked) (has_right v.before (a ∷ v.after) a (inl refl)) in
    listed_open p are_straight r closed u a h.0 m.0 there v.fails

pub sound : (name bytes : List ℕ) (ds : List Definition) (p : Project) (r : Report Pred Rule) → IsFile ds bytes → IsProject name ds p → IsReport p r → Sound p r
sound name bytes ds p r file project report = closed_sound name bytes ds p r file project (least_closed p r report)

-- each frame of a run meets what is assumed of its function
pub entries : (name bytes : List ℕ) (ds : List Definition) (p : Project) (r : Report Pred Rule) (n : ℕ) (s u : State) → IsFile ds bytes → IsProject name ds p → IsClosedReport p r → Starts p r s → Run p r n s u →
    All (Meets r) (u.top ∷ u.rest)
entries name bytes ds p r n s u file project closed start run =
    let are_straight = straight name bytes ds p file project in
    let m = meets_run p are_straight r closed n s u run (holds_start p are_straight r s start) (meets_start p r s start) in
    all_meet r (u.top ∷ u.rest) (m.0, m.1)
