-- No run gets stuck.
use Rattle.std.proofs.Common.{◌≡◌, ℕ, ◌+◌, List, [], ◌∷◌, length, refl, sym, subst, inl, inr}
use Rattle.std.specs.Prelude.{Some}
use Rattle.po_ir.specs.declared.instr.Callee.TheVariants.{Fun}
use Rattle.po_ir.specs.declared.instr.Instr.TheVariants.{Bin, Call, Return}
use Rattle.po_ir.specs.declared.graph.Node.{Node}
use Rattle.po_ir.specs.declared.project.Project.{Project}
use Rattle.po_straight.specs.declared.definition.Definition.{Definition}
use Rattle.po_straight.specs.Definitions.{IsFile}
use Rattle.po_core.specs.declared.report.Report.{Report}
use Rattle.po_pred.specs.declared.pred.Pred.{Pred}
use Rattle.po_app.specs.declared.rule.Rule.{Rule}
use Rattle.po_app.specs.Lowering.{int, IsProject}
use Rattle.po_app.specs.Obligations.{predicates}
use Rattle.po_app.specs.Meaning.{number, Frame, State, AllHold, node_under, asked, receive, put, start_frame, StepOf, Step, Run, GoesOn}
use Rattle.po_app.specs.Sound.{Starts}
use Rattle.po_app.proofs.Soundness.Places.{operand_known}
use Rattle.po_app.proofs.Soundness.Passing.{pass}
use Rattle.po_app.proofs.Soundness.Results.{counted, counted_held, asks}
use Rattle.po_app.proofs.Soundness.Decided.{checked, predicate_decided, result_there}
use Rattle.po_app.proofs.Soundness.Graphs.{IsOperation, IsCall, IsReturn}
use Rattle.po_app.proofs.Soundness.Frames.{AreStraight, straight, Keeps, Waits, HoldsAlong, at_frame, own_hold, holds_start, holds_run}
use Rattle.po_app.proofs.Soundness.Checks.{asked_ready, node_there}

module _ (p : Project) (are_straight : AreStraight p) (r : Report Pred Rule) where
  -- the step of an operation of which all obligations hold
  operation_steps : (s : State) (n : Node) (k : Keeps p s.top) → node_under p s.top ≡ Some n → AllHold s.top (asked p r s) → IsOperation k.function.graph.params s.top.node n → (u : State) × Step p r s u
  operation_steps s n k here held o =
      let to = k.function.graph.params + s.top.node in
      let v = operand_known to o.left s.top o.left_before k.filled in
      let w = operand_known to o.right s.top o.right_before k.filled in
      let own = own_hold p are_straight r s n here held in
      let at_asks : AllHold s.top (counted s.top.fun s.top.node 0 (asks o.op o.left o.right)) = subst (λ i. AllHold s.top (counted s.top.fun s.top.node 0 (predicates i))) o.is own in
      let x = result_there o.op o.left o.right s.top v.0 w.0 o.arithmetic w.1 (λ q. counted_held s.top.fun s.top.node 0 (asks o.op o.left o.right) q s.top at_asks) in
      let u : State = record { top = put to (number x.0) s.top; rest = s.rest } in
      let goes : StepOf p (Bin (record { 0 = to }) o.op int o.left o.right) s u = (record { left = v.0; right = w.0; exact = x.0; left_is = v.1; right_is = w.1; exact_is = x.1; next = refl }, refl) in
      (u, record { node = n; here = here; held = held; goes = subst (λ i. StepOf p i s u) (sym o.is) goes })

  call_steps : (s : State) (n : Node) (k : Keeps p s.top) → node_under p s.top ≡ Some n → AllHold s.top (asked p r s) → IsCall are_straight.counts k.function.graph.params s.top.node n → (u : State) × Step p r s u
  call_steps s n k here held c =
      let to = k.function.graph.params + s.top.node in
      let called = are_straight.called c.callee (length c.args) c.counted in
      let values = pass to s.top c.args c.before k.filled in
      let u : State = record { top = start_frame c.callee called.0 values.0; rest = s.top ∷ s.rest } in
      let goes : StepOf p (Call (Some (record { 0 = to })) (Fun (record { 0 = c.callee })) c.args []) s u = record { function = called.0; is_there = called.1; values = values.0; passed = values.1; top = refl; rest = refl } in
      (u, record { node = n; here = here; held = held; goes = subst (λ i. StepOf p i s u) (sym c.is) goes })

  -- a return to the frame that waits, or the end where none does
  return_goes_on : (s : State) (n : Node) (k : Keeps p s.top) (rest : List Frame) → node_under p s.top ≡ Some n → AllHold s.top (asked p r s) → IsReturn k.function.graph.params s.top.node n → s.rest ≡ rest → Waits p s.top.fun rest → GoesOn p r s
  return_goes_on s n k [] here held ret is waits = inr (inr (record { node = n; here = here; value = Some ret.value; returns = ret.is; held = held; alone = is }))
  return_goes_on s n k (caller ∷ below) here held ret is waits =
      let v = operand_known (k.function.graph.params + s.top.node) ret.value s.top ret.before k.filled in
      let a = waits.1 in
      let u : State = record { top = receive a.to (Some (number v.0)) caller; rest = below } in
      let goes : StepOf p (Return (Some ret.value)) s u = record {
        caller = caller;
        below = below;
        waiting = is;
        node = a.node;
        stands = a.here;
        to = a.to;
        callee = Fun (record { 0 = s.top.fun });
        args = a.args;
        strings = [];
        calls = a.calls;
        result = Some (number v.0);
        is_result = (number v.0, v.1, refl);
        top = refl;
        rest = refl;
      } in
      inr (inl (u, record { node = n; here = here; held = held; goes = subst (λ i. StepOf p i s u) (sym ret.is) goes }))

  all_held : (s : State) (n : Node) (h : HoldsAlong p s) → node_under p s.top ≡ Some n → AllHold s.top (asked p r s) → GoesOn p r s
  all_held s n h here held =
      elim (at_frame p are_straight s.top n h.0 here) [
        | inl w ↦ elim w.0 [ inl o ↦ inr (inl (operation_steps s n h.0 here held o)) | inr c ↦ inr (inl (call_steps s n h.0 here held c)) ]
        | inr ret ↦ return_goes_on s n h.0 s.rest here held ret refl h.1
      ]

  pub goes_on_here : (s : State) → HoldsAlong p s → GoesOn p r s
  goes_on_here s h =
      let n = node_there p are_straight s.top h.0 in
      elim (checked s.top (asked p r s) (λ a there. predicate_decided a.1 s.top (asked_ready p are_straight r s a h.0 there))) [
        | inl held ↦ all_held s n.0 h n.1 held
        | inr f ↦ inl (f.first.0, record { before = f.before; pred = f.first.1; after = f.after; checked = f.split; held = f.held; fails = f.fails })
      ]

pub goes_on : (name bytes : List ℕ) (ds : List Definition) (p : Project) (r : Report Pred Rule) (n : ℕ) (s u : State) → IsFile ds bytes → IsProject name ds p → Starts p r s → Run p r n s u → GoesOn p r u
goes_on name bytes ds p r n s u file project start run =
    let are_straight = straight name bytes ds p file project in
    goes_on_here p are_straight r u (holds_run p are_straight r n s u run (holds_start p are_straight r s start))
