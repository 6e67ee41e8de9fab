-- In a report that is closed under the rules, what doesn't hold where a frame stands is listed as open.
use Rattle.std.proofs.Common.{◌≡◌, ◌⊎◌, ℕ, Bool, true, false, cond, [], ◌∷◌, refl, sym, ◌∙◌, ap, subst, inl, inr}
use Rattle.std.specs.Prelude.{Option, Some, None, Contains, slice_get}
use Rattle.std.proofs.lemmas.Option.{cond_some, slice_get_within}
use Rattle.po_base.specs.declared.numbers.NodeNo.{NodeNo}
use Rattle.po_ir.specs.declared.graph.Node.{Node}
use Rattle.po_ir.specs.declared.project.Function.{Function}
use Rattle.po_ir.specs.declared.project.Project.{Project}
use Rattle.po_core.specs.Book.{IsPrimary}
use Rattle.po_lists.proofs.Members.{Has, contains}
use Rattle.po_core.specs.declared.obl.Cause.TheVariants.{Primary}
use Rattle.po_core.specs.declared.obl.Obl.{Obl}
use Rattle.po_core.specs.declared.obl.Verdict.{Verdict}
use Rattle.po_core.specs.declared.obl.Verdict.TheVariants.{Closed, Delegated, Open}
use Rattle.po_core.specs.declared.report.Report.{Report}
use Rattle.po_pred.specs.declared.pred.Pred.{Pred}
use Rattle.po_app.specs.declared.rule.Rule.{Rule}
use Rattle.po_app.specs.declared.rule.Rule.TheVariants.{Range}
use Rattle.po_app.specs.Obligations.{Asked, predicates, primary}
use Rattle.po_app.specs.Discharge.{is_closed}
use Rattle.po_app.specs.Delegation.{is_assumable, entry_predicate, delegated}
use Rattle.po_app.specs.Verdicts.{function_of, predicate_of, left, verdict_on, judged, verdict_of}
use Rattle.po_app.specs.Book.{nodes_of, node_places, places, book}
use Rattle.po_app.specs.Closed.{IsListed, IsClosedReport}
use Rattle.po_app.specs.Meaning.{Frame, State, Holds, node_under, asked}
use Rattle.po_app.specs.Sound.{Meets}
use Rattle.po_app.proofs.Tells.{closed_for_all}
use Rattle.po_app.proofs.Soundness.Members.{has_each}
use Rattle.po_app.proofs.Soundness.Places.{AreReady, holds}
use Rattle.po_app.proofs.Soundness.Entries.{delegated_holds}
use Rattle.po_app.proofs.Soundness.Supports.{caused_at}
use Rattle.po_app.proofs.Soundness.Frames.{AreStraight, Keeps, node_at_frame}
use Rattle.po_app.proofs.Soundness.Checks.{IsOwnAt, asked_either, asked_ready, node_there}

-- what the operation at a node asks is among what its function asks by itself
place_there : (p : Project) (f k i : ℕ) (g : Function) (n : Node) (q : Pred) → slice_get p.functions f ≡ Some g → slice_get g.graph.nodes k ≡ Some n → slice_get (predicates n.instr) i ≡ Some q →
    Contains (places p (record { 0 = f })) (record { 0 = k }, i)
place_there p f k i g n q there node pred =
    let at : NodeNo × ℕ = (record { 0 = k }, i) in
    let here : Has (node_places k n) at = has_each (λ j (r : Pred). (record { 0 = k }, j) ∷ []) (predicates n.instr) i q at pred (inl refl) in
    let node' : slice_get (nodes_of (slice_get p.functions f)) k ≡ Some n = ap (λ o. slice_get (nodes_of o) k) there ∙ node in
    contains (places p (record { 0 = f })) at (has_each node_places (nodes_of (slice_get p.functions f)) k n at node' here)

is_primary : (p : Project) (f k i : ℕ) (g : Function) (n : Node) (q : Pred) → slice_get p.functions f ≡ Some g → slice_get g.graph.nodes k ≡ Some n → slice_get (predicates n.instr) i ≡ Some q → IsPrimary (book p) (primary f k i)
is_primary p f k i g n q there node pred = (i, slice_get_within p.functions f g there, refl, place_there p f k i g n q there node pred)

verdict_is : (p : Project) (o : Obl Pred) (g : Function) (q : Pred) → function_of p o ≡ Some g → predicate_of p o ≡ Some q → verdict_of p o ≡ verdict_on g.graph.params q
verdict_is p o g q there pred = ap (λ f. judged f (predicate_of p o)) there ∙ ap (judged (Some g)) pred

settled_by : (closed : Bool) (d : Option Pred) (w : Verdict Pred Rule) (P : Type 0) → w ≡ cond closed (Closed Range) (left d) → (closed ≡ true → P) → ((c : Pred) → d ≡ Some c → w ≡ Delegated c → P) → (w ≡ Open) ⊎ P
settled_by true d w P is by_range by_caller = inr (by_range refl)
settled_by false None w P is by_range by_caller = inl is
settled_by false (Some c) w P is by_range by_caller = inr (by_caller c refl is)

module _ (p : Project) (are_straight : AreStraight p) (r : Report Pred Rule) (closed : IsClosedReport p r) where
  -- an obligation that is listed is open, or its predicate holds
  open_or_holds : (frame : Frame) (k : Keeps p frame) (a : Asked) (v : Verdict Pred Rule) → Meets r frame → Contains r.lines (a.0, v) → a.0.fun.0 ≡ frame.fun → predicate_of p a.0 ≡ Some a.1 → AreReady frame a.1 → (v ≡ Open) ⊎ Holds frame a.1
  open_or_holds frame k a v meets listed fun pred ready =
      let params = k.function.graph.params in
      let there : function_of p a.0 ≡ Some k.function = ap (slice_get p.functions) fun ∙ k.is_there in
      let is : v ≡ verdict_of p a.0 = closed.judged a.0 v listed in
      settled_by (is_closed a.1) (delegated params a.1) v (Holds frame a.1) (is ∙ verdict_is p a.0 k.function a.1 there pred)
      (λ by_range. holds a.1 frame ready (closed_for_all a.1 by_range))
      (λ c by_caller verdict.
      let entry = cond_some (is_assumable params (entry_predicate params a.1)) (entry_predicate params a.1) c by_caller in
      let assumed = closed.closed.assumes a.0 c (v, listed) (sym is ∙ verdict) in
      delegated_holds params a.1 frame k.arguments ready (subst (Holds frame) (sym entry.1) (meets a.0.fun c assumed fun)))

  own_listed : (frame : Frame) (k : Keeps p frame) (n : Node) (a : Asked) → node_under p frame ≡ Some n → IsOwnAt frame.fun frame.node n a → IsListed r a.0
  own_listed frame k n a here own =
      subst (λ (o : Obl Pred). IsListed r o) (sym own.is)
      (closed.closed.asks (primary frame.fun frame.node own.place) (is_primary p frame.fun frame.node own.place k.function n a.1 k.is_there (node_at_frame p frame k.function n k.is_there here) own.pred))

  own_pred : (frame : Frame) (n : Node) (a : Asked) → node_under p frame ≡ Some n → IsOwnAt frame.fun frame.node n a → predicate_of p a.0 ≡ Some a.1
  own_pred frame n a here own =
      caused_at p a.0 frame n (Primary own.place) (ap (λ (o : Obl Pred). o.fun.0) own.is) (ap (λ (o : Obl Pred). o.node.0) own.is) here (ap (λ (o : Obl Pred). o.cause) own.is) ∙ own.pred

  as_open : (a : Asked) (v : Verdict Pred Rule) (P : Type 0) → Contains r.lines (a.0, v) → (v ≡ Open) ⊎ P → (P → ⊥) → Contains r.lines (a.0, Open)
  as_open a v P listed (inl is) fails = subst (λ (w : Verdict Pred Rule). Contains r.lines (a.0, w)) is listed
  as_open a v P listed (inr here) fails = absurd (fails here)

  pub listed_open : (s : State) (a : Asked) → Keeps p s.top → Meets r s.top → Has (asked p r s) a → (Holds s.top a.1 → ⊥) → Contains r.lines (a.0, Open)
  listed_open s a k meets h fails =
      let n = node_there p are_straight s.top k in
      let ready = asked_ready p are_straight r s a k h in
      elim (asked_either p r s n.0 a n.1 h) [
        | inl own ↦
            let line = own_listed s.top k n.0 a n.1 own in
            let fun = ap (λ (o : Obl Pred). o.fun.0) own.is in
            as_open a line.0 (Holds s.top a.1) line.1 (open_or_holds s.top k a line.0 meets line.1 fun (own_pred s.top n.0 a n.1 own) ready) fails
        | inr by ↦ as_open a by.verdict (Holds s.top a.1) by.listed (open_or_holds s.top k a by.verdict meets by.listed by.fun by.pred ready) fails
      ]
