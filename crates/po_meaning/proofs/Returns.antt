-- A return leads from a state that belongs to a project to one that belongs to it.
use Rattle.std.specs.Prelude.{ℕ, zero, suc, ◌+◌, ◌≡◌, List, [], ◌∷◌, Option, Some, None, slice_get}
use Rattle.std.proofs.Common.{refl, sym, ap, ◌∙◌, subst, arith}
use Rattle.po_lists.proofs.Places.{all_at, all_tail}
use Rattle.po_lists.proofs.Options.{one_value}
use Rattle.po_lists.proofs.Members.{contains_head}
use Rattle.po_base.specs.declared.numbers.RegNo.{RegNo}
use Rattle.po_base.specs.declared.operand.Opnd.{Opnd}
use Rattle.po_ir.specs.declared.graph.Node.{Node}
use Rattle.po_ir.specs.declared.graph.Graph.{Graph}
use Rattle.po_ir.specs.declared.instr.Ty.{Ty}
use Rattle.po_ir.specs.declared.instr.Callee.{Callee}
use Rattle.po_ir.specs.declared.instr.Callee.TheVariants.{Fun}
use Rattle.po_ir.specs.declared.instr.Reason.TheVariants.{Unread}
use Rattle.po_ir.specs.declared.instr.Instr.{Instr}
use Rattle.po_ir.specs.declared.instr.Instr.TheVariants.{Call, Return, Never}
use Rattle.po_ir.specs.declared.project.Function.{Function}
use Rattle.po_ir.specs.declared.project.Project.{Project}
use Rattle.po_ir.specs.Paths.{NodeAt}
use Rattle.po_ir.specs.Types.{Lies, IsResultType}
use Rattle.po_ir.specs.Whole.{Signature, IsWhole, IsUnread, FunctionFits, CallFits, Receives, Gives}
use Rattle.po_memory.specs.declared.block.Block.{Block}
use Rattle.po_memory.specs.declared.frame.Frame.{Frame}
use Rattle.po_memory.specs.declared.value.Value.{Value}
use Rattle.po_memory.specs.Bytes.{LiesIn}
use Rattle.po_meaning.specs.Operands.{block_held, slot_block, value_at, receive}
use Rattle.po_meaning.specs.States.{State, StandsAt}
use Rattle.po_meaning.specs.Steps.{Returned, Returns}
use Rattle.po_meaning.specs.Belongs.{FrameBelongs, Calls, HasEntered, PointsThere, FramePoints, Belongs}
use Rattle.po_meaning.proofs.Frames.{told_at}
use Rattle.po_meaning.proofs.Plain.{typed_as, put_stays, goes_stays, arrives}
use Rattle.po_meaning.proofs.ResultTypes.{one_type, not_void}
use Rattle.po_meaning.proofs.Calls.{value_lies, value_there}
use Rattle.po_meaning.proofs.Slots.{entered_block, kills_stay}
use Rattle.po_meaning.proofs.States.{state}

-- the frame that waits runs at its call
popped : (p : Project) (top caller : Frame) (below : List Frame) (m : List Block) → Belongs p (state top (caller ∷ below) m) → Belongs p (state caller below m)
popped p top caller below m before = record {
  each_frame = all_tail (FrameBelongs p) top (caller ∷ below) before.each_frame;
  waiting = before.waiting.1;
  slots = record {
    blocks = λ frame g k t b x here of is has. before.slots.blocks frame g (suc k) t b x here of is has;
    apart = λ k l t other b one two. let same = before.slots.apart (suc k) (suc l) t other b one two in (pred_same k l same.0, same.1);
  };
  sizes = before.sizes;
  statics = before.statics;
  pointers = record { frames_point = all_tail (FramePoints p.target m) top (caller ∷ below) before.pointers.frames_point; blocks_point = before.pointers.blocks_point };
}
  where
    pred_same : (k l : ℕ) → suc k ≡ suc l → k ≡ l
    pred_same k l same = omega (arith, same)

-- the instruction at a node is one
one_instruction : (g : Graph) (n : ℕ) (i j : Instr) → NodeAt g n i → NodeAt g n j → i ≡ j
one_instruction g n i j one two = sym one.2 ∙ (ap (λ (x : Node). x.instr) (one_value (slice_get g.nodes n) one.0 two.0 one.1 two.1) ∙ two.2)

same_call : (to to' : Option RegNo) (callee callee' : Callee) (args args' : List Opnd) (strings strings' : List ℕ) → Call to callee args strings ≡ Call to' callee' args' strings' → callee ≡ callee'
same_call to to' callee callee' args args' strings strings' same = cc

-- a function that returns is read
single : (nd node : Node) (n : ℕ) → slice_get (nd ∷ []) n ≡ Some node → nd ≡ node
single nd node zero here = cc
single nd node (suc n) here = absurd (cc)

is_read : (f : Function) (n : ℕ) (value : Option Opnd) → NodeAt f.graph n (Return value) → IsUnread f → ⊥
is_read f n value at (nd, one, never) =
    let same = single nd at.0 n (subst (λ (l : List Node). slice_get l n ≡ Some at.0) one at.1) in
    let clash : Never Unread ≡ Return value = sym never ∙ (ap (λ (x : Node). x.instr) same ∙ at.2) in
    absurd (cc)

module _ (library : List Signature) (p : Project) (f : Function) (s u : State) (whole : IsWhole library p) (value : Option Opnd) (stands : StandsAt p s.top f (Return value)) (returns : Returns p f value s u) (all : Belongs p s) where
  abbrev caller : Frame
  caller = returns.caller

  abbrev below : List Frame
  below = returns.below

  before : Belongs p (state s.top (caller ∷ below) s.memory)
  before = subst (λ (l : List Frame). Belongs p (state s.top l s.memory)) returns.waiting all

  resumed : Belongs p (state caller below s.memory)
  resumed = popped p s.top caller below s.memory before

  abbrev call : Instr
  call = Call returns.to returns.callee returns.args returns.strings

  -- it waits for the function that returns
  is_called : returns.callee ≡ Fun s.top.function
  is_called =
      let waits : Calls p caller s.top.function = before.waiting.0 in
      let other = waits.4 in
      let function : waits.0 ≡ returns.calling = one_value (slice_get p.functions caller.function.0) waits.0 returns.calling other.of returns.calls.of in
      let node : NodeAt returns.calling.graph caller.node.0 (Call waits.1 (Fun s.top.function) waits.2 waits.3) = subst (λ (g : Function). NodeAt g.graph caller.node.0 (Call waits.1 (Fun s.top.function) waits.2 waits.3)) function other.node in
      same_call returns.to waits.1 returns.callee (Fun s.top.function) returns.args waits.2 returns.strings waits.3 (one_instruction returns.calling.graph caller.node.0 call (Call waits.1 (Fun s.top.function) waits.2 waits.3) returns.calls.node node)

  abbrev CallOf : Callee → Type 0
  CallOf c = NodeAt returns.calling.graph caller.node.0 (Call returns.to c returns.args returns.strings)

  call_fits : CallFits returns.calling.graph returns.to returns.args f
  call_fits =
      let fits : FunctionFits library p returns.calling = all_at (FunctionFits library p) p.functions caller.function.0 returns.calling whole.functions returns.calls.of in
      let node : CallOf (Fun s.top.function) = subst CallOf is_called returns.calls.node in
      told_at (slice_get p.functions s.top.function.0) (λ (c : Function). (IsUnread c → ⊥) → CallFits returns.calling.graph returns.to returns.args c) f stands.of
      ((fits.instructions caller.node.0 (Call returns.to (Fun s.top.function) returns.args returns.strings) node).callees_fit) (is_read f s.top.node.0 value stands.node)

  gives : Gives f value
  gives = ((all_at (FunctionFits library p) p.functions s.top.function.0 f whole.functions stands.of).instructions s.top.node.0 (Return value) stands.node).return_fits

  -- what a register that gets the result gets
  abbrev IsReceived : Ty → Value → Type 0
  IsReceived t v = LiesIn t v × PointsThere p.target s.memory v

  received_value : (back : Option Opnd) (t : Ty) (v : Value) → Gives f back → IsResultType f.result.text (Some t) → Returned f s.top back (Some v) → IsReceived t v
  received_value None t v given is clash = absurd (cc)
  received_value (Some a) t v (k, spells, lies) is (j, w, spells', has, same) =
      let known : w ≡ v = one_value (Some w) w v refl (sym same) in
      let lie : Lies f.graph t a = subst (λ (x : Ty). Lies f.graph x a) (one_type f.result.text k t spells is) lies in
      let has_now : value_at s.top t a ≡ Some v = subst (λ (x : Ty). value_at s.top x a ≡ Some v) (one_type f.result.text j t spells' is) (subst (λ (y : Value). value_at s.top j a ≡ Some y) known has) in
      (value_lies p f s stands.of all t a v lie has_now, value_there p f s stands.of all t a v has_now)

  -- a register waits for a value only
  no_result : (back : Option Opnd) (t : Ty) → Gives f back → IsResultType f.result.text (Some t) → Returned f s.top back None → ⊥
  no_result None t given is none = not_void f.result.text t given is
  no_result (Some a) t given is (j, w, spells, has, clash) = absurd (cc)

  at_call : StandsAt p caller returns.calling call
  at_call = returns.calls

  received_in : (to : Option RegNo) (result : Option Value) → StandsAt p caller returns.calling (Call to returns.callee returns.args returns.strings) → Receives returns.calling.graph to (λ t. IsResultType f.result.text (Some t)) → Returned f s.top value result →
      Belongs p (state (receive to result caller) below s.memory)
  received_in (Some to) (Some v) at typed is =
      let register = typed_as returns.calling.graph to (λ t. IsResultType f.result.text (Some t)) typed in
      let got = received_value value register.register.ty v gives register.typed is in
      put_stays p returns.calling (state caller below s.memory) at.of resumed (Call (Some to) returns.callee returns.args returns.strings) to v register.register (record { of = at.of; node = at.node }) (contains_head _ []) refl refl register.there got.0 got.1
  received_in (Some to) None at typed is =
      let register = typed_as returns.calling.graph to (λ t. IsResultType f.result.text (Some t)) typed in
      absurd (no_result value register.register.ty gives register.typed is)
  received_in None (Some v) at typed is =
      goes_stays p returns.calling (state caller below s.memory) at.of resumed (Call None returns.callee returns.args returns.strings) (record { 0 = caller.node.0 + 1 }) (record { of = at.of; node = at.node }) (contains_head _ []) refl refl
  received_in None None at typed is =
      goes_stays p returns.calling (state caller below s.memory) at.of resumed (Call None returns.callee returns.args returns.strings) (record { 0 = caller.node.0 + 1 }) (record { of = at.of; node = at.node }) (contains_head _ []) refl refl

  received : Belongs p (state (receive returns.to returns.result caller) below s.memory)
  received = received_in returns.to returns.result returns.calls call_fits.result returns.is_result

  -- a slot of the frame that ends is none of another frame's
  slots_same : (to : Option RegNo) (result : Option Value) (t : ℕ) → slot_block (receive to result caller) t ≡ slot_block caller t
  slots_same (Some to) (Some v) t = refl
  slots_same (Some to) None t = refl
  slots_same None (Some v) t = refl
  slots_same None None t = refl

  abbrev back : Frame
  back = receive returns.to returns.result caller

  entered_below : (k t b : ℕ) (frame : Frame) → slice_get (back ∷ below) k ≡ Some frame → slot_block frame t ≡ Some b → HasEntered (state s.top (caller ∷ below) s.memory) (suc k) t b
  entered_below zero t b frame here has = (caller, refl, sym (slots_same returns.to returns.result t) ∙ subst (λ (fr : Frame). slot_block fr t ≡ Some b) (sym (one_value (Some back) back frame refl here)) has)
  entered_below (suc k) t b frame here has = (frame, here, has)

  slot_held : (i b : ℕ) → slice_get s.top.slots i ≡ Some (Some b) → slot_block s.top i ≡ Some b
  slot_held i b here = subst (λ (o : Option (Option ℕ)). block_held o ≡ Some b) (sym here) refl

  own_alone : (i b : ℕ) → slice_get s.top.slots i ≡ Some (Some b) → (k t : ℕ) (frame : Frame) → slice_get (back ∷ below) k ≡ Some frame → slot_block frame t ≡ Some b → ⊥
  own_alone i b here k t frame there has =
      let same = before.slots.apart (suc k) 0 t i b (entered_below k t b frame there has) (s.top, refl, slot_held i b here) in
      let clash = same.0 in
      absurd (omega (arith, clash))

  pub return_stays : Belongs p u
  return_stays = arrives p u back below u.memory returns.top returns.rest refl
      (kills_stay p back below s.top.slots s.memory u.memory returns.memory
      (λ i b here. ((entered_block p (state s.top (caller ∷ below) s.memory) before 0 i b (s.top, refl, slot_held i b here)).3.own, own_alone i b here)) received)
