-- A state of which only the running frame changes, not its slots, belongs where that frame does.
use Rattle.std.specs.Prelude.{ℕ, zero, suc, ◌≡◌, List, ◌∷◌, Option, Some, slice_get}
use Rattle.std.proofs.Common.{refl, sym, ap, ◌∙◌, subst}
use Rattle.std.proofs.lemmas.List.Elements.{All-cons}
use Rattle.po_lists.proofs.Places.{all_tail}
use Rattle.po_base.specs.declared.numbers.FunNo.{FunNo}
use Rattle.po_ir.specs.declared.graph.Slot.{Slot}
use Rattle.po_ir.specs.declared.project.Function.{Function}
use Rattle.po_ir.specs.declared.project.Project.{Project}
use Rattle.po_memory.specs.declared.block.Block.{Block}
use Rattle.po_memory.specs.declared.frame.Frame.{Frame}
use Rattle.po_meaning.specs.Operands.{block_held, slot_block}
use Rattle.po_meaning.specs.States.{State, IsOf}
use Rattle.po_meaning.specs.Belongs.{FrameBelongs, Wait, HasEntered, IsOfSlot, SlotsBelong, FramePoints, Belongs}

abbrev pub state : Frame → List Frame → List Block → State
state top rest m = record { top = top; rest = rest; memory = m }

pub some_same : {X : Type 0} (x y : X) → Some x ≡ Some y → y ≡ x
some_same x y same = cc

module _ (p : Project) (top now : Frame) (rest : List Frame) (m : List Block) (function : now.function ≡ top.function) (slots : now.slots ≡ top.slots) where
  block_same : (s : ℕ) → slot_block now s ≡ slot_block top s
  block_same s = ap (λ (list : List (Option ℕ)). block_held (slice_get list s)) slots

  of_same : (f : Function) → IsOf p now f → IsOf p top f
  of_same f of = subst (λ (n : FunNo). slice_get p.functions n.0 ≡ Some f) function of

  entered_back : (k s b : ℕ) → HasEntered (state now rest m) k s b → HasEntered (state top rest m) k s b
  entered_back zero s b (frame, here, is) = (top, refl, sym (block_same s) ∙ subst (λ (fr : Frame). slot_block fr s ≡ Some b) (some_same now frame here) is)
  entered_back (suc k) s b (frame, here, is) = (frame, here, is)

  blocks_kept : SlotsBelong p (state top rest m) → (frame : Frame) (f : Function) (k s b : ℕ) (slot : Slot) → slice_get (now ∷ rest) k ≡ Some frame → IsOf p frame f → slice_get f.graph.slots s ≡ Some slot →
      slot_block frame s ≡ Some b → (c : Block) × (slice_get m b ≡ Some c) × IsOfSlot p slot b c
  blocks_kept before frame f zero s b slot here of there is =
      before.blocks top f 0 s b slot refl (of_same f (subst (λ (fr : Frame). IsOf p fr f) (some_same now frame here) of)) there
      (sym (block_same s) ∙ subst (λ (fr : Frame). slot_block fr s ≡ Some b) (some_same now frame here) is)
  blocks_kept before frame f (suc k) s b slot here of there is = before.blocks frame f (suc k) s b slot here of there is

  slots_kept : SlotsBelong p (state top rest m) → SlotsBelong p (state now rest m)
  slots_kept before = record {
    blocks = blocks_kept before;
    apart = λ k l s other b one two. before.apart k l s other b (entered_back k s b one) (entered_back l other b two);
  }

  pub belongs_kept : FrameBelongs p now → FramePoints p.target m now → Belongs p (state top rest m) → Belongs p (state now rest m)
  belongs_kept frame points before = record {
    each_frame = All-cons (FrameBelongs p) now rest frame (all_tail (FrameBelongs p) top rest before.each_frame);
    waiting = subst (λ (n : FunNo). Wait p n rest) (sym function) before.waiting;
    slots = slots_kept before.slots;
    sizes = before.sizes;
    statics = before.statics;
    pointers = record {
      frames_point = All-cons (FramePoints p.target m) now rest points (all_tail (FramePoints p.target m) top rest before.pointers.frames_point);
      blocks_point = before.pointers.blocks_point;
    };
  }
