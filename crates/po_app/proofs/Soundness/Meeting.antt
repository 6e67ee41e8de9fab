-- Along a run each frame meets what a report that is closed under the rules assumes of its function.
use Rattle.std.proofs.Common.{◌≡◌, ℕ, zero, suc, ◌+◌, true, cond, List, [], ◌∷◌, length, refl, sym, ◌∙◌, ap, subst, inl, inr, eq-eqb}
use Rattle.std.specs.Prelude.{Option, Some, None, All, Contains, slice_get}
use Rattle.std.specs.List.{AllZip}
use Rattle.std.proofs.lemmas.List.Elements.{All-nil, All-cons}
use Rattle.po_base.specs.declared.numbers.FunNo.{FunNo}
use Rattle.po_base.specs.declared.numbers.NodeNo.{NodeNo}
use Rattle.po_base.specs.declared.numbers.RegNo.{RegNo}
use Rattle.po_base.specs.declared.operand.Opnd.{Opnd}
use Rattle.po_ir.specs.declared.instr.Callee.TheVariants.{Fun}
use Rattle.po_ir.specs.declared.instr.Instr.{Instr}
use Rattle.po_ir.specs.declared.instr.Instr.TheVariants.{Call}
use Rattle.po_ir.specs.declared.graph.Node.{Node}
use Rattle.po_ir.specs.declared.project.Function.{Function}
use Rattle.po_ir.specs.declared.project.Project.{Project}
use Rattle.po_lists.proofs.Members.{Has, contains}
use Rattle.po_core.specs.declared.obl.Cause.TheVariants.{Support}
use Rattle.po_core.specs.declared.obl.Obl.{Obl}
use Rattle.po_core.specs.declared.report.Report.{Report}
use Rattle.po_pred.specs.declared.pred.Pred.{Pred}
use Rattle.po_pred.specs.Subst.{put_in}
use Rattle.po_app.specs.declared.rule.Rule.{Rule}
use Rattle.po_app.specs.Obligations.{Asked}
use Rattle.po_app.specs.Delegation.{is_assumable}
use Rattle.po_app.specs.Verdicts.{supported, predicate_of}
use Rattle.po_app.specs.Book.{is_call_of, node_call, function_calls, call_sites}
use Rattle.po_app.specs.Closed.{IsAssumed, IsClosedReport}
use Rattle.po_app.specs.Meaning.{Value, Frame, State, Holds, AllHold, operand_value, node_under, asked_at, asked, supports, receive, StepOf, Step, Run}
use Rattle.po_app.specs.Sound.{Meets, Starts}
use Rattle.po_app.proofs.Soundness.Members.{has_each, has_right, all_has}
use Rattle.po_app.proofs.Soundness.Passing.{put_in_holds, holds_alike}
use Rattle.po_app.proofs.Soundness.Graphs.{IsOperation, IsCall, IsReturn}
use Rattle.po_app.proofs.Soundness.Supports.{within, has_support, caused_at}
use Rattle.po_app.proofs.Soundness.Frames.{AreStraight, Keeps, Waits, HoldsAlong, node_at_frame, same_function, at_frame, received_fun, holds_step}

-- a call is among the calls of the function that it names
called_from : (p : Project) (frame : Frame) (g : Function) (n : Node) (f : FunNo) (to : Option RegNo) (callee : ℕ) (args : List Opnd) → slice_get p.functions frame.fun ≡ Some g → slice_get g.graph.nodes frame.node ≡ Some n →
    n.instr ≡ Call to (Fun (record { 0 = callee })) args [] → f.0 ≡ callee → Contains (call_sites p f) (record { 0 = frame.fun }, record { 0 = frame.node })
called_from p frame g n f to callee args there node calls same =
    let site : FunNo × NodeNo = (record { 0 = frame.fun }, record { 0 = frame.node }) in
    let is : is_call_of f n.instr ≡ true = ap (is_call_of f) calls ∙ eq-eqb callee f.0 (sym same) in
    let here : Has (node_call f frame.fun frame.node n) site = within (is_call_of f n.instr) (site ∷ []) site is (inl refl) in
    let inside : Has (function_calls f frame.fun g) site = has_each (node_call f frame.fun) g.graph.nodes frame.node n site node here in
    contains (call_sites p f) site (has_each (function_calls f) p.functions frame.fun g site there inside)

received_args : (to : Option RegNo) (v : Option Value) (caller : Frame) → (receive to v caller).args ≡ caller.args
received_args None v caller = refl
received_args (Some to) None caller = refl
received_args (Some to) (Some v) caller = refl

supported_call : (i : Instr) (to : Option RegNo) (callee : ℕ) (args : List Opnd) (q : Pred) → i ≡ Call to (Fun (record { 0 = callee })) args [] → is_assumable (length args) q ≡ true → supported i q ≡ Some (put_in q args)
supported_call i to callee args q calls assumable = ap (λ j. supported j q) calls ∙ ap (λ b. cond b (Some (put_in q args)) None) assumable

-- each of these frames meets what is assumed of its function
abbrev pub EachMeets : Report Pred Rule → List Frame → Type 0
EachMeets r [] = Unit {0}
EachMeets r (frame ∷ rest) = Meets r frame × EachMeets r rest

abbrev pub MeetsAlong : Report Pred Rule → State → Type 0
MeetsAlong r s = Meets r s.top × EachMeets r s.rest

pub all_meet : (r : Report Pred Rule) (frames : List Frame) → EachMeets r frames → All (Meets r) frames
all_meet r [] h = All-nil (Meets r)
all_meet r (frame ∷ rest) h = All-cons (Meets r) frame rest h.0 (all_meet r rest h.1)

pub meets_start : (p : Project) (r : Report Pred Rule) (s : State) → Starts p r s → MeetsAlong r s
meets_start p r s h = (h.meets, subst (EachMeets r) (sym h.alone) tt)

module _ (p : Project) (are_straight : AreStraight p) (r : Report Pred Rule) (closed : IsClosedReport p r) where
  -- a frame of the same call
  meets_alike : (frame other : Frame) (k : Keeps p frame) → frame.fun ≡ other.fun → frame.args ≡ other.args → Meets r frame → Meets r other
  meets_alike frame other k fun args meets = λ f q assumed same.
      let at : f.0 ≡ frame.fun = same ∙ sym fun in
      holds_alike k.function.graph.params q frame other (closed.fits f q k.function assumed (ap (slice_get p.functions) at ∙ k.is_there)) args (meets f q assumed at)

  -- what is assumed of a called function was checked at the call
  checked : (s : State) (n : Node) (k : Keeps p s.top) (c : IsCall are_straight.counts k.function.graph.params s.top.node n) (f : FunNo) (q : Pred) → node_under p s.top ≡ Some n → AllHold s.top (asked p r s) → IsAssumed r f q → f.0 ≡ c.callee →
      is_assumable (length c.args) q ≡ true → Holds s.top (put_in q c.args)
  checked s n k c f q here held assumed fun assumable =
      let o : Obl Pred = record { fun = record { 0 = s.top.fun }; node = record { 0 = s.top.node }; cause = Support q } in
      let to : Option RegNo = Some (record { 0 = k.function.graph.params + s.top.node }) in
      let site = called_from p s.top k.function n f to c.callee c.args k.is_there (node_at_frame p s.top k.function n k.is_there here) c.is fun in
      let line = closed.closed.supports f q o assumed (refl, site) in
      let pred : predicate_of p o ≡ Some (put_in q c.args) = caused_at p o s.top n (Support q) refl refl here refl ∙ supported_call n.instr to c.callee c.args q c.is assumable in
      let there : Has (supports p r s.top.fun s.top.node) (o, put_in q c.args) = has_support p r s.top.fun s.top.node o line.0 q (put_in q c.args) line.1 refl refl refl pred in
      all_has (λ (a : Asked). Holds s.top a.1) (asked p r s) (o, put_in q c.args) held (has_right (asked_at s.top (node_under p s.top)) (supports p r s.top.fun s.top.node) (o, put_in q c.args) there)

  meets_operation : (s u : State) (n : Node) (k : Keeps p s.top) → IsOperation k.function.graph.params s.top.node n → StepOf p n.instr s u → MeetsAlong r s → MeetsAlong r u
  meets_operation s u n k o goes m =
      let g = subst (λ i. StepOf p i s u) o.is goes in (
        meets_alike s.top u.top k (sym (ap (λ (frame : Frame). frame.fun) g.0.next)) (sym (ap (λ (frame : Frame). frame.args) g.0.next)) m.0,
        subst (EachMeets r) (sym g.1) m.1,
      )

  meets_call : (s u : State) (n : Node) (k : Keeps p s.top) → node_under p s.top ≡ Some n → AllHold s.top (asked p r s) → IsCall are_straight.counts k.function.graph.params s.top.node n → StepOf p n.instr s u → MeetsAlong r s → MeetsAlong r u
  meets_call s u n k here held c goes m =
      let e = subst (λ i. StepOf p i s u) c.is goes in
      let called = are_straight.called c.callee (length c.args) c.counted in
      let same = same_function (slice_get p.functions c.callee) called.0 e.function called.1 e.is_there in
      let params : e.function.graph.params ≡ length c.args = subst (λ (g : Function). g.graph.params ≡ length c.args) same called.2 in
      let fun : u.top.fun ≡ c.callee = ap (λ (frame : Frame). frame.fun) e.top in
      let args : e.values ≡ u.top.args = sym (ap (λ (frame : Frame). frame.args) e.top) in
      let meets : Meets r u.top = λ f q assumed at.
      let callee : f.0 ≡ c.callee = at ∙ fun in
      let fits = closed.fits f q e.function assumed (ap (slice_get p.functions) callee ∙ e.is_there) in
      let assumable : is_assumable (length c.args) q ≡ true = subst (λ i. is_assumable i q ≡ true) params fits in
      let passed = subst (λ (values : List Value). AllZip (λ a v. operand_value s.top a ≡ Some v) c.args values) args e.passed in
      put_in_holds c.args s.top u.top q assumable passed (checked s n k c f q here held assumed callee assumable) in
      (meets, subst (EachMeets r) (sym e.rest) (m.0, m.1))

  meets_return : (s u : State) (n : Node) (k : Keeps p s.top) → IsReturn k.function.graph.params s.top.node n → StepOf p n.instr s u → HoldsAlong p s → MeetsAlong r s → MeetsAlong r u
  meets_return s u n k ret goes h m =
      let t = subst (λ i. StepOf p i s u) ret.is goes in
      let waits = subst (λ (rest : List Frame). Waits p s.top.fun rest) t.waiting h.1 in
      let below = subst (EachMeets r) t.waiting m.1 in
      let fun : u.top.fun ≡ t.caller.fun = ap (λ (frame : Frame). frame.fun) t.top ∙ received_fun t.to t.result t.caller in
      let args : u.top.args ≡ t.caller.args = ap (λ (frame : Frame). frame.args) t.top ∙ received_args t.to t.result t.caller in
      (meets_alike t.caller u.top waits.0 (sym fun) (sym args) below.0, subst (EachMeets r) (sym t.rest) below.1)

  meets_step : (s u : State) → Step p r s u → HoldsAlong p s → MeetsAlong r s → MeetsAlong r u
  meets_step s u step h m =
      elim (at_frame p are_straight s.top step.node h.0 step.here) [
        | inl w ↦
            elim w.0 [
              | inl o ↦ meets_operation s u step.node h.0 o step.goes m
              | inr c ↦ meets_call s u step.node h.0 step.here step.held c step.goes m
            ]
        | inr ret ↦ meets_return s u step.node h.0 ret step.goes h m
      ]

  pub meets_run : (n : ℕ) (s u : State) → Run p r n s u → HoldsAlong p s → MeetsAlong r s → MeetsAlong r u
  meets_run zero s u run h m = subst (MeetsAlong r) run m
  meets_run (suc n) s u run h m = meets_run n run.0 u run.2 (holds_step p are_straight r s run.0 run.1 h) (meets_step s run.0 run.1 h m)
