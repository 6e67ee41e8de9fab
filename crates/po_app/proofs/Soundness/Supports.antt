-- The supporting obligations that a report lists at a node.
use Rattle.std.proofs.Common.{◌≡◌, ℕ, ◌==◌, ◌&&◌, Bool, true, false, cond, List, [], length, refl, sym, ◌∙◌, ap, subst, inl, inr, eqb-true, eq-eqb}
use Rattle.std.specs.Prelude.{Option, Some, None, Contains, slice_get}
use Rattle.std.proofs.lemmas.Bool.{and_from}
use Rattle.std.proofs.lemmas.Option.{cond_some}
use Rattle.po_base.specs.declared.operand.Opnd.{Opnd}
use Rattle.po_base.specs.declared.numbers.RegNo.{RegNo}
use Rattle.po_ir.specs.declared.instr.Callee.{Callee}
use Rattle.po_ir.specs.declared.instr.Instr.{Instr}
use Rattle.po_ir.specs.declared.instr.Instr.TheVariants.{Call}
use Rattle.po_ir.specs.declared.graph.Node.{Node}
use Rattle.po_ir.specs.declared.project.Project.{Project}
use Rattle.po_lists.proofs.Members.{Has, has, contains}
use Rattle.po_core.specs.declared.obl.Cause.{Cause}
use Rattle.po_core.specs.declared.obl.Cause.TheVariants.{Primary, Support}
use Rattle.po_core.specs.declared.obl.Obl.{Obl}
use Rattle.po_core.specs.declared.obl.Verdict.{Verdict}
use Rattle.po_core.specs.declared.report.Report.{Report}
use Rattle.po_pred.specs.declared.pred.Pred.{Pred}
use Rattle.po_pred.specs.Subst.{put_in}
use Rattle.po_app.specs.declared.rule.Rule.{Rule}
use Rattle.po_app.specs.Obligations.{Asked}
use Rattle.po_app.specs.Delegation.{is_assumable}
use Rattle.po_app.specs.Verdicts.{supported, caused, node_in, node_of, predicate_of}
use Rattle.po_app.specs.Meaning.{Frame, node_under, with_predicate, support_by, support_at, supports}
use Rattle.po_app.proofs.Soundness.Members.{from_flat_map, into_flat_map}
use Rattle.po_app.proofs.Soundness.Served.{both}

-- the report lists the obligation, which supports an assumption at this node
pub record IsSupportAt (p : Project) (r : Report Pred Rule) (f n : ℕ) (a : Asked) : Type 0 where
  pub verdict : Verdict Pred Rule
  pub listed : Contains r.lines (a.0, verdict)
  pub fun : a.0.fun.0 ≡ f
  pub node : a.0.node.0 ≡ n
  pub assumed : Pred
  pub cause : a.0.cause ≡ Support assumed
  pub pred : predicate_of p a.0 ≡ Some a.1

guarded : {X : Type 0} (b : Bool) (list : List X) (x : X) → Has (cond b list []) x → (b ≡ true) × Has list x
guarded true list x h = (refl, h)
guarded false list x h = absurd h

pub within : {X : Type 0} (b : Bool) (list : List X) (x : X) → b ≡ true → Has list x → Has (cond b list []) x
within true list x e h = h
within false list x e h = absurd (cc)

of_predicate : (o : Obl Pred) (v : Option Pred) (a : Asked) → Has (with_predicate o v) a → (o ≡ a.0) × (v ≡ Some a.1)
of_predicate o None a h = absurd h
of_predicate o (Some q) a (inl same) = (ap (λ (b : Asked). b.0) same, ap (λ (b : Asked). Some b.1) same)
of_predicate o (Some q) a (inr h) = absurd h

by_cause : (p : Project) (o : Obl Pred) (cause : Cause Pred) (a : Asked) → Has (support_by p o cause) a → (q : Pred) × (cause ≡ Support q) × (o ≡ a.0) × (predicate_of p o ≡ Some a.1)
by_cause p o (Primary i) a h = absurd h
by_cause p o (Support q) a h = let k = of_predicate o (predicate_of p o) a h in (q, refl, k.0, k.1)

pub is_support_at : (p : Project) (r : Report Pred Rule) (f n : ℕ) (a : Asked) → Has (supports p r f n) a → IsSupportAt p r f n a
is_support_at p r f n a h =
    let x = from_flat_map (support_at p f n) r.lines a h in
    let o = x.0.0 in
    let g = guarded (o.fun.0 == f && o.node.0 == n) (support_by p o o.cause) a x.2 in
    let here = both (o.fun.0 == f) (o.node.0 == n) g.0 in
    let c = by_cause p o o.cause a g.1 in
    let same = c.2 in
    record {
      verdict = x.0.1;
      listed = subst (λ (b : Obl Pred). Contains r.lines (b, x.0.1)) same (contains r.lines x.0 x.1);
      fun = subst (λ (b : Obl Pred). b.fun.0 ≡ f) same (eqb-true o.fun.0 f here.0);
      node = subst (λ (b : Obl Pred). b.node.0 ≡ n) same (eqb-true o.node.0 n here.1);
      assumed = c.0;
      cause = subst (λ (b : Obl Pred). b.cause ≡ Support c.0) same c.1;
      pred = subst (λ (b : Obl Pred). predicate_of p b ≡ Some a.1) same c.3;
    }

pub has_support : (p : Project) (r : Report Pred Rule) (f n : ℕ) (o : Obl Pred) (v : Verdict Pred Rule) (assumed q : Pred) → Contains r.lines (o, v) → o.fun.0 ≡ f → o.node.0 ≡ n → o.cause ≡ Support assumed → predicate_of p o ≡ Some q →
    Has (supports p r f n) (o, q)
has_support p r f n o v assumed q listed fun node cause pred =
    let one : Has (with_predicate o (predicate_of p o)) (o, q) = subst (λ w. Has (with_predicate o w) (o, q)) (sym pred) (inl refl) in
    let by : Has (support_by p o o.cause) (o, q) = subst (λ c. Has (support_by p o c) (o, q)) (sym cause) one in
    into_flat_map (support_at p f n) r.lines (o, v) (o, q) (has r.lines (o, v) listed) (within (o.fun.0 == f && o.node.0 == n) (support_by p o o.cause) (o, q) (and_from _ _ (eq-eqb o.fun.0 f fun) (eq-eqb o.node.0 n node)) by)

-- the predicate of an obligation at a node
pub caused_at : (p : Project) (o : Obl Pred) (frame : Frame) (n : Node) (cause : Cause Pred) → o.fun.0 ≡ frame.fun → o.node.0 ≡ frame.node → node_under p frame ≡ Some n → o.cause ≡ cause → predicate_of p o ≡ caused (Some n) cause
caused_at p o frame n cause fun node here is =
    let at : node_of p o ≡ Some n = ap (λ f. node_in (slice_get p.functions f) o.node.0) fun ∙ (ap (λ k. node_in (slice_get p.functions frame.fun) k) node ∙ here) in
    ap (λ v. caused v o.cause) at ∙ ap (caused (Some n)) is

-- what supports an assumption at a call
pub supported_at : (i : Instr) (to : Option RegNo) (callee : Callee) (args : List Opnd) (strings : List ℕ) (assumed q : Pred) → i ≡ Call to callee args strings → supported i assumed ≡ Some q → (is_assumable (length args) assumed ≡ true) × (put_in assumed args ≡ q)
supported_at i to callee args strings assumed q is h = cond_some (is_assumable (length args) assumed) (put_in assumed args) q (subst (λ j. supported j assumed ≡ Some q) is h)
