-- The least report is closed under the rules.
use Rattle.std.proofs.Common.{◌≡◌, Bool, true, false, cond, refl, sym, ◌∙◌, ap, subst}
use Rattle.std.specs.Prelude.{ℕ, Option, Some, None, slice_get}
use Rattle.po_ir.specs.declared.project.Function.{Function}
use Rattle.po_ir.specs.declared.project.Project.{Project}
use Rattle.po_core.specs.Least.{IsClosed, AreClosed, IsReported}
use Rattle.po_core.specs.declared.obl.Obl.{Obl}
use Rattle.po_core.specs.declared.obl.Verdict.TheVariants.{Closed, Delegated}
use Rattle.po_core.specs.declared.report.Report.{Report}
use Rattle.po_pred.specs.declared.pred.Pred.{Pred}
use Rattle.po_app.specs.declared.rule.Rule.{Rule}
use Rattle.po_app.specs.declared.rule.Rule.TheVariants.{Range}
use Rattle.po_app.specs.Discharge.{is_closed}
use Rattle.po_app.specs.Delegation.{is_assumable, entry_predicate, delegated}
use Rattle.po_app.specs.Verdicts.{left, judged, verdict_of, function_of, predicate_of}
use Rattle.po_app.specs.Book.{book}
use Rattle.po_app.specs.Closed.{IsReport, IsListed, IsAssumed, IsClosedReport}

-- a function of the project may assume it
fits : Option Function → Pred → Bool
fits None q = true
fits (Some g) q = is_assumable g.graph.params q

fits_there : (v : Option Function) (g : Function) (q : Pred) → v ≡ Some g → fits v q ≡ is_assumable g.graph.params q
unfolding fits
fits_there v g q there = ap (λ w. fits w q) there

delegated_fits : (params : ℕ) (q c : Pred) (closed : Bool) → cond closed (Closed Range) (left (delegated params q)) ≡ Delegated c → is_assumable params c ≡ true
delegated_fits params q c true is = absurd (cc)
delegated_fits params q c false is = by (is_assumable params (entry_predicate params q)) refl is
  where
    by : (b : Bool) → is_assumable params (entry_predicate params q) ≡ b → left (cond b (Some (entry_predicate params q)) None) ≡ Delegated c → is_assumable params c ≡ true
    by true assumable same = let here : entry_predicate params q ≡ c = cc in subst (λ x. is_assumable params x ≡ true) here assumable
    by false assumable same = absurd (cc)

judged_fits : (f : Option Function) (q : Option Pred) (c : Pred) → judged f q ≡ Delegated c → fits f c ≡ true
unfolding fits
judged_fits None q c is = refl
judged_fits (Some g) None c is = absurd (cc)
judged_fits (Some g) (Some q) c is = delegated_fits g.graph.params q c (is_closed q) is

module _ (p : Project) (r : Report Pred Rule) (report : IsReport p r) where
  reported : (o : Obl Pred) → IsReported (book p) o → IsListed r o
  reported o h = (verdict_of p o, (report.lines o (verdict_of p o)).1 (h, refl))

  listed : (o : Obl Pred) → IsListed r o → IsReported (book p) o
  listed o h = ((report.lines o h.0).0 h.1).0

  closed_lists : IsClosed (book p) (IsListed r) (IsAssumed r)
  closed_lists = record {
    asks = λ o primary. reported o (λ R A closed. closed.asks o primary);
    assumes = λ o q there verdict. (report.assumptions o.fun q).1 (λ R A closed. closed.assumes o q (listed o there R A closed) verdict);
    supports = λ f q o assumed support. reported o (λ R A closed. closed.supports f q o ((report.assumptions f q).0 assumed R A closed) support);
  }

  -- all obligations, and for each function what it may assume, are closed
  all_that_fits : AreClosed (book p) (λ o. true) (λ f q. fits (slice_get p.functions f.0) q)
  all_that_fits = record {
    asks = λ o primary. refl;
    assumes = λ o q there verdict. judged_fits (function_of p o) (predicate_of p o) q verdict;
    supports = λ f q o assumed support. refl;
  }

  pub least_closed : IsClosedReport p r
  least_closed = record {
    closed = closed_lists;
    judged = λ o v there. ((report.lines o v).0 there).1;
    fits = λ f q g assumed there. sym (fits_there (slice_get p.functions f.0) g q there) ∙ (report.assumptions f q).0 assumed (λ o. true) (λ f q. fits (slice_get p.functions f.0) q) all_that_fits;
  }
