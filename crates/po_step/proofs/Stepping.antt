-- The frames of a state of the code, and what a step answers.
use Rattle.std.specs.Prelude.{ℕ, ◌≡◌, List, [], ◌∷◌, ◌++◌, Option, Some, None, reverse, slice_get}
use Rattle.std.proofs.Common.{refl, sym, ap, ◌∙◌, subst}
use Rattle.std.proofs.lemmas.Grind.{reverse_onto}
use Rattle.std.proofs.lemmas.List.{reverse-reverse}
use Rattle.po_core.specs.declared.report.Report.{Report}
use Rattle.po_ir.specs.declared.graph.Node.{Node}
use Rattle.po_ir.specs.declared.instr.Instr.{Instr}
use Rattle.po_ir.specs.declared.project.Function.{Function}
use Rattle.po_ir.specs.declared.project.Project.{Project}
use Rattle.po_ir.specs.Paths.{Reachable}
use Rattle.po_ir.specs.Valid.{WaysStayWithin}
use Rattle.po_ir.specs.Whole.{FunctionFits, Signature, IsWhole}
use Rattle.po_pred.specs.declared.pred.Pred.{Pred}
use Rattle.po_pred.specs.declared.pred.Rule.{Rule}
use Rattle.po_gen.specs.Asks.{Required}
use Rattle.po_memory.specs.declared.block.Block.{Block}
use Rattle.po_memory.specs.declared.frame.Frame.{Frame}
use Rattle.po_meaning.specs.declared.state.State.{State as Stored}
use Rattle.po_meaning.specs.Library.{Library}
use Rattle.po_meaning.specs.States.{State, frames, StandsAt}
use Rattle.po_meaning.specs.Checks.{Asked, asked_at, AllHold}
use Rattle.po_meaning.specs.Belongs.{Belongs, FrameBelongs}
use Rattle.po_meaning.specs.Shown.{Shows}
use Rattle.po_lists.proofs.Places.{all_at, all_head, item_at}
use Rattle.po_step.specs.Checking.{AllOf, IsFirstFailing}
use Rattle.po_step.specs.Stepping.{AnswersIn, Carries, IsStateOf, IsStep, IsViolatedAt, state_of}
use Rattle.po_step.specs.declared.step.Step.{Step}
use Rattle.po_step.specs.declared.step.Step.TheVariants.{Next, Ended, Violated}
use Rattle.po_step.proofs.Returning.{last_first}

-- ---- frames

shown_frames : (top : Frame) (waiting : List Frame) → reverse (top ∷ reverse waiting) ≡ waiting ++ top ∷ []
shown_frames top waiting = reverse_onto (reverse waiting) top [] ∙ ap (λ (l : List Frame). l ++ top ∷ []) (reverse-reverse waiting)

first_of : (x y : Frame) (xs ys : List Frame) → x ∷ xs ≡ y ∷ ys → x ≡ y
first_of x y xs ys same = cc

rest_of : (x y : Frame) (xs ys : List Frame) → x ∷ xs ≡ y ∷ ys → xs ≡ ys
rest_of x y xs ys same = cc

no_frames : (top : Frame) (rest : List Frame) → [] ≡ reverse (top ∷ rest) → ⊥
no_frames top rest same = let both : [] ≡ top ∷ rest = ap (λ (l : List Frame). reverse l) same ∙ reverse-reverse (top ∷ rest) in cc

pub some_frame : (p : Project) (stored : Stored) → IsStateOf p stored → stored.frames ≡ [] → ⊥
some_frame p stored is none = no_frames is.state.top is.state.rest (sym none ∙ is.shown.frames_shown)

pub belongs_split : (p : Project) (stored : Stored) (top : Frame) (waiting : List Frame) → IsStateOf p stored → stored.frames ≡ waiting ++ top ∷ [] → Belongs p (state_of top waiting stored.memory.blocks)
belongs_split p stored top waiting is split =
    let all : top ∷ reverse waiting ≡ frames is.state = sym (last_first waiting top) ∙ (ap (λ (l : List Frame). reverse l) (sym split ∙ is.shown.frames_shown) ∙ reverse-reverse (frames is.state)) in
    let running : is.state.top ≡ top = sym (first_of top is.state.top (reverse waiting) is.state.rest all) in
    let others : is.state.rest ≡ reverse waiting = sym (rest_of top is.state.top (reverse waiting) is.state.rest all) in
    subst (λ (x : Frame). Belongs p (record { top = x; rest = reverse waiting; memory = stored.memory.blocks })) running
    (subst (λ (l : List Frame). Belongs p (record { top = is.state.top; rest = l; memory = stored.memory.blocks })) others
    (subst (λ (m : List Block). Belongs p (record { top = is.state.top; rest = is.state.rest; memory = m })) (sym is.shown.memory_shown) is.belongs))

shows : (stored : Stored) (top : Frame) (waiting : List Frame) (m : List Block) → stored.frames ≡ waiting ++ top ∷ [] → stored.memory.blocks ≡ m → Shows stored (state_of top waiting m)
shows stored top waiting m split memory = record { frames_shown = split ∙ sym (shown_frames top waiting); memory_shown = memory }

pub step_is : (l : Library) (p : Project) (r : Report Pred Rule) (before after : Stored) (step : Step) (top now : Frame) (waiting left : List Frame) → before.frames ≡ waiting ++ top ∷ [] → after.frames ≡ left ++ now ∷ [] →
    AnswersIn l p r (state_of top waiting before.memory.blocks) step (state_of now left after.memory.blocks) → IsStep l p r before step after
step_is l p r before after step top now waiting left first last answers = record {
  old = state_of top waiting before.memory.blocks;
  new = state_of now left after.memory.blocks;
  old_shown = shows before top waiting before.memory.blocks first refl;
  new_shown = shows after now left after.memory.blocks last refl;
  answers = answers;
}

same_function : (f g : Function) → Some f ≡ Some g → f ≡ g
same_function f g same = cc

no_none : (o : Option Node) (n : Node) → o ≡ None → o ≡ Some n → ⊥
no_none o n none some = cc

-- the node at which the running frame stands is there
pub node_is_there : WaysStayWithin → (library : List Signature) (p : Project) (f : Function) (top : Frame) (waiting : List Frame) (m : List Block) → IsWhole library p → Belongs p (state_of top waiting m) → slice_get p.functions top.function.0 ≡ Some f →
    slice_get f.graph.nodes top.node.0 ≡ None → ⊥
node_is_there ways library p f top waiting m whole belongs of none =
    let frame : FrameBelongs p top = all_head (FrameBelongs p) top (reverse waiting) belongs.each_frame in
    let its = all_at (FunctionFits library p) p.functions top.function.0 f whole.functions of in
    let same : frame.function ≡ f = same_function frame.function f (sym frame.of ∙ of) in
    let reached : Reachable f.graph top.node.0 = subst (λ (g : Function). Reachable g.graph top.node.0) same frame.place.node in
    let node = item_at f.graph.nodes top.node.0 (ways f.graph reached.0 top.node.0 its.valid reached.1) in
    no_none (slice_get f.graph.nodes top.node.0) node.0 none node.1

-- ---- obligations

pub all_hold : (required : Required) (p : Project) (r : Report Pred Rule) (top : Frame) (waiting : List Frame) (m : List Block) (list : List Asked) → list ≡ asked_at required p r top.function top.node → AllOf top m list →
    AllHold required p r (state_of top waiting m)
all_hold required p r top waiting m list is all = subst (λ (xs : List Asked). AllOf top m xs) is all

violated_at : (required : Required) (p : Project) (r : Report Pred Rule) (top : Frame) (waiting : List Frame) (m : List Block) (place : ℕ) → IsFirstFailing top m (asked_at required p r top.function top.node) place →
    IsViolatedAt required p r (state_of top waiting m) top.function top.node place
violated_at required p r top waiting m place first = record {
  obligation = first.asked.0;
  first = record { place = place; pred = first.asked.1; checked = first.there; before = first.before; fails = first.fails };
  place = refl;
  function = refl;
  node = refl;
}

pub violated : (l : Library) (p : Project) (r : Report Pred Rule) (top : Frame) (waiting : List Frame) (m : List Block) (list : List Asked) (place index : ℕ) → list ≡ asked_at l.required p r top.function top.node → IsFirstFailing top m list place →
    index ≡ place → Belongs p (state_of top waiting m) → AnswersIn l p r (state_of top waiting m) (Violated top.function top.node index) (state_of top waiting m)
violated l p r top waiting m list place index is first counted belongs = (
  (
    refl,
    subst (λ (k : ℕ). IsViolatedAt l.required p r (state_of top waiting m) top.function top.node k) (sym counted)
        (violated_at l.required p r top waiting m place (subst (λ (xs : List Asked). IsFirstFailing top m xs place) is first)),
  ),
  belongs,
)

-- ---- instructions

pub carried : (l : Library) (p : Project) (r : Report Pred Rule) (f : Function) (i : Instr) (s u : State) (step : Step) → StandsAt p s.top f i → AllHold l.required p r s → Belongs p s → Carries l p f i s step u → AnswersIn l p r s step u
carried l p r f i s u Next stands held belongs carries = (record { function = f; instr = i; here = stands; held = held; goes = carries.0 }, carries.1)
carried l p r f i s u Ended stands held belongs carries = ((carries.0, record { function = f; instr = i; here = stands; held = held; ends = carries.1 }), subst (Belongs p) (sym carries.0) belongs)
carried l p r f i s u (Violated g n index) stands held belongs carries = absurd carries

-- ---- states

pub stays_of : (l : Library) (p : Project) (r : Report Pred Rule) (before after : Stored) (step : Step) → IsStep l p r before step after → IsStateOf p after
stays_of l p r before after step is = record { state = is.new; shown = is.new_shown; belongs = is.answers.1 }
