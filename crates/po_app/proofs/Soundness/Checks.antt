-- What is asked where a frame stands: each predicate's places stand on ints.
use Rattle.std.proofs.Common.{[], ◌≡◌, ◌⊎◌, ℕ, ◌+◌, arith, sym, ◌∙◌, ap, subst, inl, inr}
use Rattle.std.specs.Prelude.{Option, Some, None, slice_get}
use Rattle.po_ir.specs.declared.instr.Callee.TheVariants.{Fun}
use Rattle.po_ir.specs.declared.graph.Node.{Node}
use Rattle.po_ir.specs.declared.project.Project.{Project}
use Rattle.po_lists.proofs.Members.{Has}
use Rattle.po_core.specs.declared.obl.Cause.TheVariants.{Support}
use Rattle.po_core.specs.declared.report.Report.{Report}
use Rattle.po_pred.specs.declared.pred.Pred.{Pred}
use Rattle.po_app.specs.declared.rule.Rule.{Rule}
use Rattle.po_app.specs.Obligations.{Asked, predicates, primary}
use Rattle.po_app.specs.Verdicts.{supported, node_in}
use Rattle.po_app.specs.Meaning.{Frame, State, node_under, asked_at, asked, supports}
use Rattle.po_app.proofs.Soundness.Members.{has_either, item_at}
use Rattle.po_app.proofs.Soundness.Places.{AreReady, about_ready}
use Rattle.po_app.proofs.Soundness.Passing.{put_in_ready}
use Rattle.po_app.proofs.Soundness.Results.{counted_at, in_place, asks, asks_about}
use Rattle.po_app.proofs.Soundness.Supports.{IsSupportAt, is_support_at, caused_at, supported_at}
use Rattle.po_app.proofs.Soundness.Frames.{AreStraight, Keeps, at_frame}

-- one of the predicates of the operation at a node
pub record IsOwnAt (f : ℕ) (k : ℕ) (n : Node) (a : Asked) : Type 0 where
  pub place : ℕ
  pub is : a.0 ≡ primary f k place
  pub pred : slice_get (predicates n.instr) place ≡ Some a.1

own_at : (frame : Frame) (v : Option Node) (n : Node) (a : Asked) → v ≡ Some n → Has (asked_at frame v) a → IsOwnAt frame.fun frame.node n a
own_at frame None n a is h = absurd h
own_at frame (Some m) n a is h =
    let same : m ≡ n = cc in
    let c = counted_at frame.fun frame.node 0 (predicates m.instr) a h in
    let number : 0 + c.0 ≡ c.0 = omega arith in
    record { place = c.0; is = c.1 ∙ ap (primary frame.fun frame.node) number; pred = subst (λ (x : Node). slice_get (predicates x.instr) c.0 ≡ Some a.1) same c.2 }

-- what is asked is asked by the operation, or supports an assumption
pub asked_either : (p : Project) (r : Report Pred Rule) (s : State) (n : Node) (a : Asked) → node_under p s.top ≡ Some n → Has (asked p r s) a → IsOwnAt s.top.fun s.top.node n a ⊎ IsSupportAt p r s.top.fun s.top.node a
asked_either p r s n a here h =
    elim (has_either (asked_at s.top (node_under p s.top)) (supports p r s.top.fun s.top.node) a h) [
      | inl own ↦ inl (own_at s.top (node_under p s.top) n a here own)
      | inr by ↦ inr (is_support_at p r s.top.fun s.top.node a by)
    ]

pub support_pred : (p : Project) (r : Report Pred Rule) (frame : Frame) (n : Node) (a : Asked) → node_under p frame ≡ Some n → (by : IsSupportAt p r frame.fun frame.node a) → supported n.instr by.assumed ≡ Some a.1
support_pred p r frame n a here by = sym (caused_at p a.0 frame n (Support by.assumed) by.fun by.node here by.cause) ∙ by.pred

module _ (p : Project) (are_straight : AreStraight p) where
  -- the node at which a frame stands
  pub node_there : (frame : Frame) → Keeps p frame → (n : Node) × (node_under p frame ≡ Some n)
  node_there frame k = let n = item_at k.function.graph.nodes frame.node k.within in (n.0, ap (λ v. node_in v frame.node) k.is_there ∙ n.1)

  own_ready : (frame : Frame) (n : Node) (a : Asked) (k : Keeps p frame) → node_under p frame ≡ Some n → IsOwnAt frame.fun frame.node n a → AreReady frame a.1
  own_ready frame n a k here own =
      let asked_here = in_place (predicates n.instr) own.place a.1 own.pred in
      elim (at_frame p are_straight frame n k here) [
        | inl w ↦
            elim w.0 [
              | inl o ↦
                  let at_asks : Has (asks o.op o.left o.right) a.1 = subst (λ j. Has (predicates j) a.1) o.is asked_here in
                  about_ready (k.function.graph.params + frame.node) o.left o.right a.1 frame (asks_about o.op o.left o.right a.1 at_asks) o.left_before o.right_before k.filled
              | inr c ↦ absurd (subst (λ j. Has (predicates j) a.1) c.is asked_here)
            ]
        | inr ret ↦ absurd (subst (λ j. Has (predicates j) a.1) ret.is asked_here)
      ]

  support_ready : (r : Report Pred Rule) (frame : Frame) (n : Node) (a : Asked) (k : Keeps p frame) → node_under p frame ≡ Some n → IsSupportAt p r frame.fun frame.node a → AreReady frame a.1
  support_ready r frame n a k here by =
      let pred = support_pred p r frame n a here by in
      elim (at_frame p are_straight frame n k here) [
        | inl w ↦
            elim w.0 [
              | inl o ↦ let never = subst (λ j. supported j by.assumed ≡ Some a.1) o.is pred in absurd (cc)
              | inr c ↦
                  let at = supported_at n.instr (Some (record { 0 = k.function.graph.params + frame.node })) (Fun (record { 0 = c.callee })) c.args [] by.assumed a.1 c.is pred in
                  subst (AreReady frame) at.1 (put_in_ready (k.function.graph.params + frame.node) frame c.args by.assumed at.0 c.before k.filled)
            ]
        | inr ret ↦ let never = subst (λ j. supported j by.assumed ≡ Some a.1) ret.is pred in absurd (cc)
      ]

  pub asked_ready : (r : Report Pred Rule) (s : State) (a : Asked) → Keeps p s.top → Has (asked p r s) a → AreReady s.top a.1
  asked_ready r s a k h =
      let n = node_there s.top k in
      elim (asked_either p r s n.0 a n.1 h) [ inl own ↦ own_ready s.top n.0 a k n.1 own | inr by ↦ support_ready r s.top n.0 a k n.1 by ]
