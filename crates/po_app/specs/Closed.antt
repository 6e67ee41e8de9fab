-- The report of a project, and the reports that are closed under the rules.
use Rattle.std.specs.Prelude.{◌≡◌, true, Contains, Some, slice_get}
use Rattle.po_base.specs.declared.numbers.FunNo.{FunNo}
use Rattle.po_ir.specs.declared.project.Function.{Function}
use Rattle.po_ir.specs.declared.project.Project.{Project}
use Rattle.po_core.specs.Least.{IsClosed, IsLeastReport}
use Rattle.po_core.specs.declared.obl.Obl.{Obl}
use Rattle.po_core.specs.declared.obl.Verdict.{Verdict}
use Rattle.po_core.specs.declared.report.Report.{Report}
use Rattle.po_pred.specs.declared.pred.Pred.{Pred}
use Rattle.po_pred.specs.Order.{pred_cmp}
use Rattle.po_app.specs.declared.rule.Rule.{Rule}
use Rattle.po_app.specs.Delegation.{is_assumable}
use Rattle.po_app.specs.Verdicts.{verdict_of}
use Rattle.po_app.specs.Book.{book}

-- the least report that is closed under the rules, in its order
abbrev pub IsReport : Project → Report Pred Rule → Type 0
IsReport p r = IsLeastReport pred_cmp (book p) r

abbrev pub IsListed : Report Pred Rule → Obl Pred → Type 0
IsListed r o = (v : Verdict Pred Rule) × Contains r.lines (o, v)

abbrev pub IsAssumed : Report Pred Rule → FunNo → Pred → Type 0
IsAssumed r f q = Contains r.assumptions (f, q)

-- A report that is closed under the rules, whether or not it is the least: what is asked is listed, what is delegated is
-- assumed, and what is assumed is listed at each call; each line has its verdict, and what is assumed of a function is on its
-- parameters.
pub record IsClosedReport (p : Project) (r : Report Pred Rule) : Type 0 where
  pub closed : IsClosed (book p) (IsListed r) (IsAssumed r)
  pub judged : (o : Obl Pred) (v : Verdict Pred Rule) → Contains r.lines (o, v) → v ≡ verdict_of p o
  pub fits : (f : FunNo) (q : Pred) (g : Function) → IsAssumed r f q → slice_get p.functions f.0 ≡ Some g → is_assumable g.graph.params q ≡ true
