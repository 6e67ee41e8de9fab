-- What holds of the running frame and of those that wait, along every run.
use Rattle.std.proofs.Common.{◌≡◌, ℕ, zero, suc, ◌+◌, ◌-◌, ◌<◌, List, [], ◌∷◌, ◌++◌, map, replicate, length, refl, sym, ap, subst, ◌∙◌, inl, inr, arith, ◌≤◌, length-append}
use Rattle.std.specs.Prelude.{Option, Some, None, All, slice_get, slice_set}
use Rattle.std.proofs.lemmas.List.{length-set, length-map, length-replicate}
use Rattle.po_base.specs.declared.numbers.RegNo.{RegNo}
use Rattle.po_base.specs.declared.operand.Opnd.{Opnd}
use Rattle.po_ir.specs.declared.instr.Callee.{Callee}
use Rattle.po_ir.specs.declared.instr.Callee.TheVariants.{Fun}
use Rattle.po_ir.specs.declared.instr.Instr.TheVariants.{Call}
use Rattle.po_ir.specs.declared.graph.Node.{Node}
use Rattle.po_ir.specs.declared.project.Function.{Function}
use Rattle.po_ir.specs.declared.project.Project.{Project}
use Rattle.po_straight.specs.declared.definition.Definition.{Definition}
use Rattle.po_straight.specs.Definitions.{IsFile}
use Rattle.po_core.specs.declared.report.Report.{Report}
use Rattle.po_pred.specs.declared.pred.Pred.{Pred}
use Rattle.po_app.specs.declared.rule.Rule.{Rule}
use Rattle.po_app.specs.Lowering.{IsFunction, IsProject}
use Rattle.po_app.specs.Obligations.{Asked, predicates, node_obligations}
use Rattle.po_app.specs.Verdicts.{node_in}
use Rattle.po_app.specs.Meaning.{Value, number, Frame, State, Holds, AllHold, node_under, asked_at, asked, supports, operand_value, put, receive, start_frame, StepOf, Step, Run}
use Rattle.po_app.specs.Sound.{IsInt, Starts}
use Rattle.po_app.proofs.Soundness.Members.{first_at, second_at, all_left}
use Rattle.po_app.proofs.Soundness.Registers.{Filled, HoldArguments, filled_start, filled_more, arguments_start, arguments_more}
use Rattle.po_app.proofs.Soundness.Places.{IsBefore, operand_int}
use Rattle.po_app.proofs.Soundness.Passing.{passed_ints, passed_length}
use Rattle.po_app.proofs.Soundness.Results.{counted, counted_held, asks, result_int}
use Rattle.po_app.proofs.Soundness.Files.{counts_of, counted_definition, file_served}
use Rattle.po_app.proofs.Soundness.Graphs.{IsOperation, IsCall, IsReturn, IsAtNode, HasNext, at_node, enough_registers, one_node}

-- each node of each function is an operation or a call on what is there before, or a return; there are registers for the
-- parameters, and functions with these counts of parameters
pub record AreStraight (p : Project) : Type 0 where
  pub counts : List ℕ
  pub nodes : (f : ℕ) (g : Function) (k : ℕ) (n : Node) → slice_get p.functions f ≡ Some g → slice_get g.graph.nodes k ≡ Some n → IsAtNode counts g k n
  pub enough : (f : ℕ) (g : Function) → slice_get p.functions f ≡ Some g → g.graph.params ≤ length g.graph.regs
  pub begun : (f : ℕ) (g : Function) → slice_get p.functions f ≡ Some g → 0 < length g.graph.nodes
  pub called : (f n : ℕ) → slice_get counts f ≡ Some n → (g : Function) × (slice_get p.functions f ≡ Some g) × (g.graph.params ≡ n)

pub straight : (name bytes : List ℕ) (ds : List Definition) (p : Project) → IsFile ds bytes → IsProject name ds p → AreStraight p
straight name bytes ds p file is = record {
  counts = counts_of ds;
  nodes = λ f g k n there node.
      let d = first_at (IsFunction name) ds p.functions f g is.functions there in
      at_node name d.0 g (counts_of ds) k n d.2.graph (file_served ds bytes file f d.0 d.1) node;
  enough = λ f g there.
      let d = first_at (IsFunction name) ds p.functions f g is.functions there in
      enough_registers name d.0 g d.2.graph;
  begun = λ f g there.
      let d = first_at (IsFunction name) ds p.functions f g is.functions there in
      one_node name d.0 g d.2.graph;
  called = λ f n there.
      let d = counted_definition ds f n there in
      let g = second_at (IsFunction name) ds p.functions f d.0 is.functions d.1 in
      (g.0, g.1, g.2.graph.params ∙ d.2);
}

-- of a frame: its parameters and the results so far are ints, and the parameters have the arguments' values
pub record Keeps (p : Project) (frame : Frame) : Type 0 where
  pub function : Function
  pub is_there : slice_get p.functions frame.fun ≡ Some function
  pub filled : Filled (function.graph.params + frame.node) frame.regs
  pub arguments : HoldArguments function.graph.params frame.regs frame.args
  pub long : length frame.regs ≡ length function.graph.regs
  pub within : frame.node < length function.graph.nodes

-- the frame stands at a call of the function f
pub record Awaits (p : Project) (f : ℕ) (frame : Frame) : Type 0 where
  pub node : Node
  pub here : node_under p frame ≡ Some node
  pub to : Option RegNo
  pub args : List Opnd
  pub calls : node.instr ≡ Call to (Fun (record { 0 = f })) args []

-- the frames below one of the function f: each keeps, and stands at a call of the function of the frame above it
abbrev pub Waits : Project → ℕ → List Frame → Type 0
Waits p f [] = Unit {0}
Waits p f (frame ∷ rest) = Keeps p frame × Awaits p f frame × Waits p frame.fun rest

abbrev pub HoldsAlong : Project → State → Type 0
HoldsAlong p s = Keeps p s.top × Waits p s.top.fun s.rest

pub node_at_frame : (p : Project) (frame : Frame) (g : Function) (n : Node) → slice_get p.functions frame.fun ≡ Some g → node_under p frame ≡ Some n → slice_get g.graph.nodes frame.node ≡ Some n
node_at_frame p frame g n there here = subst (λ v. node_in v frame.node ≡ Some n) there here

pub same_function : (v : Option Function) (f g : Function) → v ≡ Some f → v ≡ Some g → f ≡ g
same_function v f g a b = cc

pub received_fun : (to : Option RegNo) (v : Option Value) (caller : Frame) → (receive to v caller).fun ≡ caller.fun
received_fun None v caller = refl
received_fun (Some to) None caller = refl
received_fun (Some to) (Some v) caller = refl

module _ (p : Project) (are_straight : AreStraight p) where
  -- what a frame is at, where it stands
  pub at_frame : (frame : Frame) (n : Node) (k : Keeps p frame) → node_under p frame ≡ Some n → IsAtNode are_straight.counts k.function frame.node n
  at_frame frame n k here = are_straight.nodes frame.fun k.function frame.node n k.is_there (node_at_frame p frame k.function n k.is_there here)

  keeps_entry : (f : ℕ) (g : Function) (args : List Value) → slice_get p.functions f ≡ Some g → length args ≡ g.graph.params → All IsInt args → Keeps p (start_frame f g args)
  keeps_entry f g args there counted ints =
      let enough = are_straight.enough f g there in
      let begun = are_straight.begun f g there in
      let none : List (Option Value) = replicate (length g.graph.regs - g.graph.params) None in
      let at_first : length args ≡ g.graph.params + 0 = omega (arith, counted) in
      let parts = length-append (map Some args) none in
      let first = length-map args Some in
      let others = length-replicate {A = Option Value} (length g.graph.regs - g.graph.params) None in
      record {
        function = g;
        is_there = there;
        filled = subst (λ k. Filled k (map Some args ++ none)) at_first (filled_start args none ints);
        arguments = subst (λ k. HoldArguments k (map Some args ++ none) args) counted (arguments_start args none);
        long = omega (arith, parts, first, others, enough, counted);
        within = begun;
      }

  pub holds_start : (r : Report Pred Rule) (s : State) → Starts p r s → HoldsAlong p s
  holds_start r s h =
      let entry : Keeps p (start_frame s.top.fun h.function s.top.args) = keeps_entry s.top.fun h.function s.top.args h.is_there h.counted h.ints in
      (subst (λ (frame : Frame). Keeps p frame) (sym h.first) entry, subst (λ (rest : List Frame). Waits p s.top.fun rest) (sym h.alone) tt)

  -- the next register gets an int
  keeps_put : (frame : Frame) (v : Value) (k : Keeps p frame) → HasNext k.function frame.node → IsInt v → Keeps p (put (k.function.graph.params + frame.node) v frame)
  keeps_put frame v k next int =
      let to = k.function.graph.params + frame.node in
      let further : to + 1 ≡ k.function.graph.params + (frame.node + 1) = omega arith in
      let below = next.0 in
      let room : to < length frame.regs = omega (arith, below, k.long) in
      record {
        function = k.function;
        is_there = k.is_there;
        filled = subst (λ i. Filled i (slice_set frame.regs to (Some v))) further (filled_more to frame.regs v room int k.filled);
        arguments = arguments_more k.function.graph.params frame.node frame.regs frame.args (Some v) k.arguments;
        long = length-set frame.regs to (Some v) ∙ k.long;
        within = next.1;
      }

  -- the obligations of the operation at the node hold where all at the node hold
  pub own_hold : (r : Report Pred Rule) (s : State) (n : Node) → node_under p s.top ≡ Some n → AllHold s.top (asked p r s) → AllHold s.top (node_obligations s.top.fun s.top.node n)
  own_hold r s n here held = subst (λ v. AllHold s.top (asked_at s.top v)) here (all_left (λ (a : Asked). Holds s.top a.1) (asked_at s.top (node_under p s.top)) (supports p r s.top.fun s.top.node) held)

  holds_operation : (s u : State) (n : Node) (k : Keeps p s.top) → IsOperation k.function.graph.params s.top.node n → HasNext k.function s.top.node →
      AllHold s.top (node_obligations s.top.fun s.top.node n) → StepOf p n.instr s u → Waits p s.top.fun s.rest → HoldsAlong p u
  holds_operation s u n k o next held goes waits =
      let to = k.function.graph.params + s.top.node in
      let g = subst (λ i. StepOf p i s u) o.is goes in
      let step = g.0 in
      let at_asks : AllHold s.top (counted s.top.fun s.top.node 0 (asks o.op o.left o.right)) = subst (λ i. AllHold s.top (counted s.top.fun s.top.node 0 (predicates i))) o.is held in
      let left_int = operand_int to o.left s.top step.left o.left_before k.filled step.left_is in
      let exact_int = result_int o.op o.left o.right s.top step.left step.right step.exact step.left_is step.right_is left_int
      (λ q. counted_held s.top.fun s.top.node 0 (asks o.op o.left o.right) q s.top at_asks) step.exact_is in
      let kept : Keeps p (put to (number step.exact) s.top) = keeps_put s.top (number step.exact) k next exact_int in (
        subst (λ (frame : Frame). Keeps p frame) (sym step.next) kept,
        subst (λ (rest : List Frame). Waits p u.top.fun rest) (sym g.1) (subst (λ (frame : Frame). Waits p frame.fun s.rest) (sym step.next) waits),
      )

  holds_call : (s u : State) (n : Node) (k : Keeps p s.top) → node_under p s.top ≡ Some n → IsCall are_straight.counts k.function.graph.params s.top.node n → StepOf p n.instr s u → Waits p s.top.fun s.rest → HoldsAlong p u
  holds_call s u n k here c goes waits =
      let e = subst (λ i. StepOf p i s u) c.is goes in
      let called = are_straight.called c.callee (length c.args) c.counted in
      let same = same_function (slice_get p.functions c.callee) called.0 e.function called.1 e.is_there in
      let params : e.function.graph.params ≡ length c.args = subst (λ (g : Function). g.graph.params ≡ length c.args) same called.2 in
      let many = passed_length s.top c.args e.values e.passed in
      let entry = keeps_entry c.callee e.function e.values e.is_there (omega (arith, many, params)) (passed_ints (k.function.graph.params + s.top.node) s.top c.args e.values c.before k.filled e.passed) in
      let awaits : Awaits p c.callee s.top = record { node = n; here = here; to = Some (record { 0 = k.function.graph.params + s.top.node }); args = c.args; calls = c.is } in
      let below : Waits p c.callee (s.top ∷ s.rest) = (k, awaits, waits) in (
        subst (λ (frame : Frame). Keeps p frame) (sym e.top) entry,
        subst (λ (rest : List Frame). Waits p u.top.fun rest) (sym e.rest) (subst (λ (frame : Frame). Waits p frame.fun (s.top ∷ s.rest)) (sym e.top) below),
      )

  value_int : (limit : ℕ) (a : Opnd) (frame : Frame) (v : Value) → IsBefore limit a → Filled limit frame.regs → operand_value frame a ≡ Some v → IsInt v
  value_int limit a frame (number v) before filled is = operand_int limit a frame v before filled is

  -- a caller that gets what was returned
  keeps_receive : (caller : Frame) (n : Node) (to : Option RegNo) (callee : Callee) (args : List Opnd) (strings : List ℕ) (v : Value) (k : Keeps p caller) → node_under p caller ≡ Some n → n.instr ≡ Call to callee args strings → IsInt v → Keeps p (receive to (Some v) caller)
  keeps_receive caller n to callee args strings v k here calls int =
      elim (at_frame caller n k here) [
        | inl w ↦
            elim w.0 [
              | inl o ↦ absurd (let is = o.is in cc)
              | inr c ↦
                  let place : Some (record { 0 = k.function.graph.params + caller.node }) ≡ to = (let is = c.is in cc) in
                  subst (λ (o : Option RegNo). Keeps p (receive o (Some v) caller)) place (keeps_put caller v k w.1 int)
            ]
        | inr ret ↦ absurd (let is = ret.is in cc)
      ]

  holds_return : (s u : State) (n : Node) (k : Keeps p s.top) → IsReturn k.function.graph.params s.top.node n → StepOf p n.instr s u → Waits p s.top.fun s.rest → HoldsAlong p u
  holds_return s u n k ret goes waits =
      let t = subst (λ i. StepOf p i s u) ret.is goes in
      let x = t.is_result.0 in
      let int = value_int (k.function.graph.params + s.top.node) ret.value s.top x ret.before k.filled t.is_result.1 in
      let below = subst (λ (rest : List Frame). Waits p s.top.fun rest) t.waiting waits in
      let got : u.top ≡ receive t.to (Some x) t.caller = t.top ∙ ap (λ v. receive t.to v t.caller) t.is_result.2 in
      let fun : u.top.fun ≡ t.caller.fun = ap (λ (frame : Frame). frame.fun) t.top ∙ received_fun t.to t.result t.caller in (
        subst (λ (frame : Frame). Keeps p frame) (sym got) (keeps_receive t.caller t.node t.to t.callee t.args t.strings x below.0 t.stands t.calls int),
        subst (λ (rest : List Frame). Waits p u.top.fun rest) (sym t.rest) (subst (λ f. Waits p f t.below) (sym fun) below.2),
      )

  pub holds_step : (r : Report Pred Rule) (s u : State) → Step p r s u → HoldsAlong p s → HoldsAlong p u
  holds_step r s u step h =
      elim (at_frame s.top step.node h.0 step.here) [
        | inl w ↦
            elim w.0 [
              | inl o ↦ holds_operation s u step.node h.0 o w.1 (own_hold r s step.node step.here step.held) step.goes h.1
              | inr c ↦ holds_call s u step.node h.0 step.here c step.goes h.1
            ]
        | inr ret ↦ holds_return s u step.node h.0 ret step.goes h.1
      ]

  pub holds_run : (r : Report Pred Rule) (n : ℕ) (s u : State) → Run p r n s u → HoldsAlong p s → HoldsAlong p u
  holds_run r zero s u run h = subst (HoldsAlong p) run h
  holds_run r (suc n) s u run h = holds_run r n run.0 u run.2 (holds_step r s run.0 run.1 h)
