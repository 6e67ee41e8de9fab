-- A step at which a slot's variable comes to be or ends leads from a state that belongs to a project to one that belongs to it.
use Rattle.std.specs.Prelude.{ℕ, zero, suc, ◌+◌, ◌≡◌, ◌≢◌, ◌≤◌, ◌<◌, ◌⊎◌, List, [], ◌∷◌, ◌++◌, All, Option, Some, None, Contains, length, slice_get, slice_set, slice_index_or}
use Rattle.std.proofs.Common.{refl, sym, ap, ◌∙◌, subst, arith, inl, inr}
use Rattle.std.proofs.lemmas.List.{length-set, length-replicate}
use Rattle.std.proofs.lemmas.List.Elements.{All-nil, All-cons, All-append, All-replicate}
use Rattle.std.proofs.lemmas.Option.{slice_get_within}
use Rattle.po_lists.proofs.Places.{all_at, set_here, set_elsewhere, all_tail, all_head, item_at, behind_at}
use Rattle.po_lists.proofs.Options.{one_value, none_or_some}
use Rattle.po_lists.proofs.Members.{contains_head}
use Rattle.po_base.specs.declared.numbers.FunNo.{FunNo}
use Rattle.po_base.specs.declared.numbers.SlotNo.{SlotNo}
use Rattle.po_ir.specs.declared.graph.Slot.{Slot}
use Rattle.po_ir.specs.declared.instr.Instr.{Instr}
use Rattle.po_ir.specs.declared.instr.Instr.TheVariants.{Enter, Leave}
use Rattle.po_ir.specs.declared.instr.Local.TheVariants as variable
use Rattle.po_ir.specs.declared.project.Function.{Function}
use Rattle.po_ir.specs.declared.project.Project.{Project}
use Rattle.po_ir.specs.Instructions.{written, entered, used, followers}
use Rattle.po_ir.specs.Paths.{NodeAt, Path, step, IsEntered}
use Rattle.po_ir.specs.Whole.{Signature, IsWhole, FunctionFits, greatest_size}
use Rattle.po_memory.specs.declared.block.Block.{Block}
use Rattle.po_memory.specs.declared.frame.Frame.{Frame}
use Rattle.po_memory.specs.declared.value.Byte.TheVariants.{Blank}
use Rattle.po_memory.specs.Accesses.{Kills, killed}
use Rattle.po_meaning.specs.Operands.{block_held, slot_block, with_block}
use Rattle.po_meaning.specs.States.{State, frames, IsOf, StandsAt}
use Rattle.po_meaning.specs.Local.{Local}
use Rattle.po_meaning.specs.Steps.{KillsAll}
use Rattle.po_meaning.specs.Needs.{Needs, NeedsSlot}
use Rattle.po_meaning.specs.Belongs.{HasSome, FrameBelongs, Wait, static_blocks, HasEntered, IsOfSlot, SlotsBelong, IsPartThere, FramePoints, Belongs}
use Rattle.po_meaning.proofs.Places.{same_or_not, held_within}
use Rattle.po_meaning.proofs.Frames.{Fits, belongs_of, reach_more, register_before, slot_before}
use Rattle.po_meaning.proofs.Memory.{Lives, Kept, BlockKept, longer, bytes_still, belongs_after, set_kept, set_all, new_kept, statics_below}
use Rattle.po_meaning.proofs.Plain.{fits_before, points_before, arrives}
use Rattle.po_meaning.proofs.States.{state, some_same}

-- ---- slots that are needed

-- what some way on uses is entered on each way here
pub needed_entered : (library : List Signature) (p : Project) (f : Function) → FunctionFits library p f → (s : SlotNo) (k n : ℕ) (back : List Instr) → Path f.graph 0 back n →
    Needs (λ i. used i ≡ Some s) (λ i. entered i ≡ Some s) f.graph k n → IsEntered s back
needed_entered library p f fits s zero n back path (i, at, uses) = fits.entered_before_used back n i s path at uses
needed_entered library p f fits s (suc k) n back path (i, m, at, other, to, needs) = behind (needed_entered library p f fits s k m (i ∷ back) (step back n m i path at to) needs)
  where
    behind : IsEntered s (i ∷ back) → IsEntered s back
    behind (inl same) = absurd (other same)
    behind (inr (not_left, is)) = is

-- ---- a frame whose slot changes

module _ (fr : Frame) (s : SlotNo) (b : Option ℕ) where
  pub block_here : s.0 < length fr.slots → slot_block (with_block s b fr) s.0 ≡ b
  block_here within = ap block_held (set_here fr.slots s.0 b within)

  pub block_others : (t : ℕ) → t ≢ s.0 → slot_block (with_block s b fr) t ≡ slot_block fr t
  block_others t other = ap block_held (set_elsewhere fr.slots s.0 t b other)

  some_block : (t : ℕ) → s.0 < length fr.slots → (t ≡ s.0) ⊎ (t ≢ s.0) → (t ≡ s.0 → HasSome b) → (t ≢ s.0 → HasSome (slot_block fr t)) → HasSome (slot_block (with_block s b fr) t)
  some_block t within (inl same) here there = let some = here same in (some.0, subst (λ (j : ℕ). slot_block (with_block s b fr) j ≡ Some some.0) (sym same) (block_here within ∙ some.1))
  some_block t within (inr other) here there = let some = there other in (some.0, block_others t other ∙ some.1)

  pub fits_block : (f : Function) (i : Instr) → NodeAt f.graph fr.node.0 i → Contains (followers fr.node.0 i) (fr.node.0 + 1) → written i ≡ None → ((t : SlotNo) → t.0 ≢ s.0 → entered i ≡ Some t → ⊥) →
      s.0 < length fr.slots → ((t : SlotNo) → t.0 ≡ s.0 → NeedsSlot f.graph t (fr.node.0 + 1) → HasSome b) → Fits f fr → Fits f (with_block s b fr)
  fits_block f i at next none other within here k = record {
    place = record {
      node = reach_more f.graph fr.node.0 (fr.node.0 + 1) i at next k.place.node;
      registers = k.place.registers;
      slots = length-set fr.slots s.0 b ∙ k.place.slots;
      arguments = k.place.arguments;
    };
    types = record { registers = k.types.registers; arguments = k.types.arguments };
    values = record {
      parameters = k.values.parameters;
      temporaries = λ r is needs. k.values.temporaries r is (register_before f.graph r fr.node.0 (fr.node.0 + 1) i at next (none_or_some (written i) r none) needs);
    };
    slots = λ t needs. some_block t.0 within (same_or_not t.0 s.0) (λ same. here t same needs) (λ not_same. k.slots t (slot_before f.graph t fr.node.0 (fr.node.0 + 1) i at next (other t not_same) needs));
  }

-- ---- the blocks of entered slots

module _ (p : Project) (s : State) (before : Belongs p s) where
  entered_in : (frame : Frame) (k t b : ℕ) (is : FrameBelongs p frame) → slice_get (frames s) k ≡ Some frame → slot_block frame t ≡ Some b → (slot : Slot) × (c : Block) × (slice_get s.memory b ≡ Some c) × IsOfSlot p slot b c
  entered_in frame k t b is here has =
      let inside : t < length is.function.graph.slots = subst (λ (n : ℕ). t < n) is.place.slots (held_within frame.slots t b has) in
      let slot = item_at is.function.graph.slots t inside in
      let block = before.slots.blocks frame is.function k t b slot.0 here is.of slot.1 has in
      (slot.0, block.0, block.1, block.2)

  pub entered_block : (k t b : ℕ) → HasEntered s k t b → (slot : Slot) × (c : Block) × (slice_get s.memory b ≡ Some c) × IsOfSlot p slot b c
  entered_block k t b (frame, here, has) = entered_in frame k t b (all_at (FrameBelongs p) (frames s) k frame before.each_frame here) here has

-- another frame of the same function runs
pub reframed : (p : Project) (top now : Frame) (rest : List Frame) (m : List Block) → now.function ≡ top.function → FrameBelongs p now → FramePoints p.target m now → SlotsBelong p (state now rest m) →
    Belongs p (state top rest m) → Belongs p (state now rest m)
reframed p top now rest m function frame points slots before = record {
  each_frame = All-cons (FrameBelongs p) now rest frame (all_tail (FrameBelongs p) top rest before.each_frame);
  waiting = subst (λ (n : FunNo). Wait p n rest) (sym function) before.waiting;
  slots = slots;
  sizes = before.sizes;
  statics = before.statics;
  pointers = record {
    frames_point = All-cons (FramePoints p.target m) now rest points (all_tail (FramePoints p.target m) top rest before.pointers.frames_point);
    blocks_point = before.pointers.blocks_point;
  };
}

-- ---- a block that ends

module _ (p : Project) (top : Frame) (rest : List Frame) where
  abbrev NotEntered : ℕ → Type 0
  NotEntered b = (k slot : ℕ) (frame : Frame) → slice_get (top ∷ rest) k ≡ Some frame → slot_block frame slot ≡ Some b → ⊥

  module _ (m w : List Block) (b : ℕ) (kills : Kills m b w) (own : static_blocks p ≤ b) (not_entered : (k slot : ℕ) (frame : Frame) → slice_get (top ∷ rest) k ≡ Some frame → slot_block frame slot ≡ Some b → ⊥) (before : Belongs p (state top rest m)) where
    abbrev after : List Block
    after = slice_set m b (killed kills.whole)

    abbrev Dies : ℕ → Type 0
    Dies j = j ≡ b

    abbrev Small : Block → Type 0
    Small c = length c.bytes ≤ greatest_size

    abbrev Points : List Block → Block → Type 0
    Points l c = All (IsPartThere p.target l) c.bytes

    ended_block : BlockKept (b ≡ b) (b < static_blocks p) kills.whole (killed kills.whole)
    ended_block = record { size = refl; align = refl; heap = refl; writable = refl; alive = λ lives no alive. absurd (lives refl); full = λ full. full; constant = λ static no. refl }

    kept : Kept Dies (static_blocks p) m after
    kept = set_kept m b kills.whole (killed kills.whole) kills.there Dies (static_blocks p) ended_block

    more : length m ≤ length after
    more = longer Dies (static_blocks p) m after kept

    still : (c : Block) → Points m c → Points after c
    still c all = bytes_still p.target m after c.bytes more all

    parts : All (Points after) after
    parts =
        set_all m b kills.whole (killed kills.whole) kills.there (Points after)
        (λ i c within. still (slice_index_or m i c) (before.pointers.blocks_point i c within))
        (still kills.whole (all_at (Points m) m b kills.whole before.pointers.blocks_point kills.there))

    after_belongs : Belongs p (state top rest after)
    after_belongs = belongs_after p top rest m after Dies kept before (λ j same. subst (λ (n : ℕ). static_blocks p ≤ n) (sym same) own)
        (λ k slot j entered same. not_entered k slot entered.0 entered.1 (subst (λ (n : ℕ). slot_block entered.0 slot ≡ Some n) same entered.2))
        (set_all m b kills.whole (killed kills.whole) kills.there Small before.sizes (all_at Small m b kills.whole before.sizes kills.there)) parts

    pub kill_stays : Belongs p (state top rest w)
    kill_stays = subst (λ (l : List Block). Belongs p (state top rest l)) (sym kills.becomes) after_belongs

  pub kills_stay : (slots : List (Option ℕ)) (m w : List Block) → KillsAll slots m w → ((i b : ℕ) → slice_get slots i ≡ Some (Some b) → (static_blocks p ≤ b) × NotEntered b) → Belongs p (state top rest m) → Belongs p (state top rest w)
  kills_stay [] m w same each before = subst (λ (l : List Block). Belongs p (state top rest l)) (sym same) before
  kills_stay (None ∷ slots) m w kills each before = kills_stay slots m w kills (λ i b here. each (suc i) b here) before
  kills_stay (Some b ∷ slots) m w (between, kills, others) each before =
      kills_stay slots between w others (λ i c here. each (suc i) c here) (kill_stays m between b kills (each 0 b refl).0 (each 0 b refl).1 before)

-- ---- the steps

-- this place of the running frame has the newest block
abbrev IsNewest : ℕ → ℕ → ℕ → ℕ → ℕ → Type 0
IsNewest slot newest k t b = (k ≡ 0) × (t ≡ slot) × (b ≡ newest)

module _ (library : List Signature) (p : Project) (f : Function) (s u : State) (whole : IsWhole library p) (before : Belongs p s) (below : u.rest ≡ s.rest) where
  fits_in : IsOf p s.top f → FunctionFits library p f
  fits_in of = all_at (FunctionFits library p) p.functions s.top.function.0 f whole.functions of

  -- a slot that is left isn't used before it is entered again
  left_unneeded : (slot t : SlotNo) → StandsAt p s.top f (Leave slot) → t.0 ≡ slot.0 → NeedsSlot f.graph t (s.top.node.0 + 1) → ⊥
  left_unneeded slot t stands same (k, needs) =
      let way = (fits_before p f s stands.of before).place.node in
      neither (needed_entered library p f (fits_in stands.of) t k (s.top.node.0 + 1) (Leave slot ∷ way.0) (step way.0 s.top.node.0 (s.top.node.0 + 1) (Leave slot) way.1 stands.node (contains_head _ [])) needs)
    where
      neither : IsEntered t (Leave slot ∷ ((fits_before p f s stands.of before).place.node).0) → ⊥
      neither (inl clash) = absurd (cc)
      neither (inr (not_left, is)) = not_left (ap (λ (n : ℕ). Some (record { 0 = n })) (sym same))

  pub leave_stays : (slot : SlotNo) → StandsAt p s.top f (Leave slot) → Local p f.graph (Leave slot) s.top s.memory u.top u.memory → Belongs p u
  leave_stays slot stands (b, is, kills, top) = arrives p u (with_block slot None s.top) s.rest u.memory top below refl (kill_stays p (with_block slot None s.top) s.rest s.memory u.memory b kills own unentered reframed_now)
    where
      within : slot.0 < length s.top.slots
      within = held_within s.top.slots slot.0 b is

      own : static_blocks p ≤ b
      own = (entered_block p s before 0 slot.0 b (s.top, refl, is)).3.own

      -- what is entered now was entered before
      back_in : (t c : ℕ) → slot_block (with_block slot None s.top) t ≡ Some c → (t ≡ slot.0) ⊎ (t ≢ slot.0) → slot_block s.top t ≡ Some c
      back_in t c has (inl same) = absurd (none_or_some _ c (block_here s.top slot None within) (subst (λ (j : ℕ). slot_block (with_block slot None s.top) j ≡ Some c) same has))
      back_in t c has (inr other) = sym (block_others s.top slot None t other) ∙ has

      entered_back : (k t c : ℕ) → HasEntered (state (with_block slot None s.top) s.rest s.memory) k t c → HasEntered s k t c
      entered_back zero t c (frame, here, has) = (s.top, refl, back_in t c (subst (λ (fr : Frame). slot_block fr t ≡ Some c) (some_same (with_block slot None s.top) frame here) has) (same_or_not t slot.0))
      entered_back (suc k) t c (frame, here, has) = (frame, here, has)

      blocks_kept : (frame : Frame) (g : Function) (k t c : ℕ) (known : Slot) → slice_get ((with_block slot None s.top) ∷ s.rest) k ≡ Some frame → IsOf p frame g → slice_get g.graph.slots t ≡ Some known → slot_block frame t ≡ Some c →
          (d : Block) × (slice_get s.memory c ≡ Some d) × IsOfSlot p known c d
      blocks_kept frame g zero t c known here of there has =
          let same = some_same (with_block slot None s.top) frame here in
          before.slots.blocks s.top g 0 t c known refl (subst (λ (fr : Frame). IsOf p fr g) same of) there (back_in t c (subst (λ (fr : Frame). slot_block fr t ≡ Some c) same has) (same_or_not t slot.0))
      blocks_kept frame g (suc k) t c known here of there has = before.slots.blocks frame g (suc k) t c known here of there has

      fits_now : Fits f (with_block slot None s.top)
      fits_now = fits_block s.top slot None f (Leave slot) stands.node (contains_head _ []) refl (λ t other clash. absurd (cc)) within (λ t same needs. absurd (left_unneeded slot t stands same needs)) (fits_before p f s stands.of before)

      reframed_now : Belongs p (state (with_block slot None s.top) s.rest s.memory)
      reframed_now = reframed p s.top (with_block slot None s.top) s.rest s.memory refl (belongs_of p f (with_block slot None s.top) stands.of fits_now)
          (record { registers = (points_before p f s stands.of before).registers; arguments = (points_before p f s stands.of before).arguments })
          (record { blocks = blocks_kept; apart = λ k l t other c one two. before.slots.apart k l t other c (entered_back k t c one) (entered_back l other c two) }) before

      unentered : (k t : ℕ) (frame : Frame) → slice_get ((with_block slot None s.top) ∷ s.rest) k ≡ Some frame → slot_block frame t ≡ Some b → ⊥
      unentered k t frame here has =
          let same = before.slots.apart k 0 t slot.0 b (entered_back k t b (frame, here, has)) (s.top, refl, is) in
          gone k t frame here has same.0 same.1
        where
          gone : (k t : ℕ) (frame : Frame) → slice_get ((with_block slot None s.top) ∷ s.rest) k ≡ Some frame → slot_block frame t ≡ Some b → k ≡ 0 → t ≡ slot.0 → ⊥
          gone zero t frame here has first same =
              none_or_some _ b (block_here s.top slot None within) (subst (λ (j : ℕ). slot_block (with_block slot None s.top) j ≡ Some b) same (subst (λ (fr : Frame). slot_block fr t ≡ Some b) (some_same (with_block slot None s.top) frame here) has))
          gone (suc k) t frame here has first same = absurd (omega (arith, first))

  pub enter_stays : (slot : SlotNo) → StandsAt p s.top f (Enter (variable.Slot slot)) → Local p f.graph (Enter (variable.Slot slot)) s.top s.memory u.top u.memory → Belongs p u
  enter_stays slot stands (known, c, there, new, top, memory) = arrives p u (with_block slot (Some (length s.memory)) s.top) s.rest (s.memory ++ c ∷ []) top below memory
      (reframed p s.top (with_block slot (Some (length s.memory)) s.top) s.rest (s.memory ++ c ∷ []) refl (belongs_of p f (with_block slot (Some (length s.memory)) s.top) stands.of fits_now)
      (record { registers = (all_head (FramePoints p.target (s.memory ++ c ∷ [])) s.top s.rest with_new.pointers.frames_point).registers; arguments = (all_head (FramePoints p.target (s.memory ++ c ∷ [])) s.top s.rest with_new.pointers.frames_point).arguments })
      (record { blocks = blocks_now; apart = apart_now }) with_new)
    where
      within : slot.0 < length s.top.slots
      within = let inside = slice_get_within f.graph.slots slot.0 known there in let same = (fits_before p f s stands.of before).place.slots in omega (arith, inside, same)

      fits_now : Fits f (with_block slot (Some (length s.memory)) s.top)
      fits_now = fits_block s.top slot (Some (length s.memory)) f (Enter (variable.Slot slot)) stands.node (contains_head _ []) refl (λ t other same. other (ap (λ (x : SlotNo). x.0) (one_value (Some slot) t slot same refl))) within
          (λ t same needs. (length s.memory, refl)) (fits_before p f s stands.of before)

      kept : Kept Lives (static_blocks p) s.memory (s.memory ++ c ∷ [])
      kept = new_kept (static_blocks p) s.memory c

      more : length s.memory ≤ length (s.memory ++ c ∷ [])
      more = longer Lives (static_blocks p) s.memory (s.memory ++ c ∷ []) kept

      size_now : length c.bytes ≡ known.size
      size_now = ap length new.bytes ∙ length-replicate known.size Blank

      sizes : All (λ (d : Block). length d.bytes ≤ greatest_size) (s.memory ++ c ∷ [])
      sizes = All-append (λ (d : Block). length d.bytes ≤ greatest_size) s.memory (c ∷ []) before.sizes
          (All-cons (λ (d : Block). length d.bytes ≤ greatest_size) c [] (subst (λ (n : ℕ). n ≤ greatest_size) (sym size_now) (all_at (λ (x : Slot). (x.size ≤ greatest_size) × (1 ≤ x.align)) f.graph.slots slot.0 known (fits_in stands.of).slots there).0) (All-nil (λ (d : Block). length d.bytes ≤ greatest_size)))

      parts : All (λ (d : Block). All (IsPartThere p.target (s.memory ++ c ∷ [])) d.bytes) (s.memory ++ c ∷ [])
      parts = All-append (λ (d : Block). All (IsPartThere p.target (s.memory ++ c ∷ [])) d.bytes) s.memory (c ∷ []) (λ i d inside. bytes_still p.target s.memory (s.memory ++ c ∷ []) (slice_index_or s.memory i d).bytes more (before.pointers.blocks_point i d inside))
          (All-cons (λ (d : Block). All (IsPartThere p.target (s.memory ++ c ∷ [])) d.bytes) c [] (subst (All (IsPartThere p.target (s.memory ++ c ∷ []))) (sym new.bytes) (All-replicate (IsPartThere p.target (s.memory ++ c ∷ [])) known.size Blank tt)) (All-nil (λ (d : Block). All (IsPartThere p.target (s.memory ++ c ∷ [])) d.bytes)))

      with_new : Belongs p (state s.top s.rest (s.memory ++ c ∷ []))
      with_new = belongs_after p s.top s.rest s.memory (s.memory ++ c ∷ []) Lives kept before (λ b dies. absurd dies) (λ k t b has dies. dies) sizes parts

      -- what is entered now is the new slot, or was entered before
      newest_in : (t b : ℕ) → slot_block (with_block slot (Some (length s.memory)) s.top) t ≡ Some b → (t ≡ slot.0) ⊎ (t ≢ slot.0) → IsNewest slot.0 (length s.memory) 0 t b ⊎ (slot_block s.top t ≡ Some b)
      newest_in t b has (inl same) = inl (refl, same, sym (one_value (slot_block (with_block slot (Some (length s.memory)) s.top) slot.0) (length s.memory) b (block_here s.top slot (Some (length s.memory)) within) (subst (λ (j : ℕ). slot_block (with_block slot (Some (length s.memory)) s.top) j ≡ Some b) same has)))
      newest_in t b has (inr other) = inr (sym (block_others s.top slot (Some (length s.memory)) t other) ∙ has)

      newest : (k t b : ℕ) → HasEntered (state (with_block slot (Some (length s.memory)) s.top) s.rest (s.memory ++ c ∷ [])) k t b → IsNewest slot.0 (length s.memory) k t b ⊎ HasEntered s k t b
      newest zero t b (frame, here, has) = told (newest_in t b (subst (λ (fr : Frame). slot_block fr t ≡ Some b) (some_same (with_block slot (Some (length s.memory)) s.top) frame here) has) (same_or_not t slot.0))
        where
          told : IsNewest slot.0 (length s.memory) 0 t b ⊎ (slot_block s.top t ≡ Some b) → IsNewest slot.0 (length s.memory) 0 t b ⊎ HasEntered s 0 t b
          told (inl is) = inl is
          told (inr is) = inr (s.top, refl, is)
      newest (suc k) t b (frame, here, has) = inr (frame, here, has)

      -- a block that was there isn't the new one
      was_there : (k t b : ℕ) → HasEntered s k t b → b < length s.memory
      was_there k t b is = let block = entered_block p s before k t b is in slice_get_within s.memory b block.1 block.2

      apart_now : (k l t other b : ℕ) → HasEntered (state (with_block slot (Some (length s.memory)) s.top) s.rest (s.memory ++ c ∷ [])) k t b → HasEntered (state (with_block slot (Some (length s.memory)) s.top) s.rest (s.memory ++ c ∷ [])) l other b → (k ≡ l) × (t ≡ other)
      apart_now k l t other b one two = by (newest k t b one) (newest l other b two)
        where
          by : IsNewest slot.0 (length s.memory) k t b ⊎ HasEntered s k t b → IsNewest slot.0 (length s.memory) l other b ⊎ HasEntered s l other b → (k ≡ l) × (t ≡ other)
          by (inl (first, slots, block)) (inl (first', slots', block')) = (first ∙ sym first', slots ∙ sym slots')
          by (inl (first, slots, block)) (inr is) = let old = was_there l other b is in absurd (omega (arith, old, block))
          by (inr is) (inl (first, slots, block)) = let old = was_there k t b is in absurd (omega (arith, old, block))
          by (inr is) (inr is') = before.slots.apart k l t other b is is'

      new_block : (x : Slot) (b : ℕ) → known ≡ x → b ≡ length s.memory → (d : Block) × (slice_get (s.memory ++ c ∷ []) b ≡ Some d) × IsOfSlot p x b d
      new_block x b is same = (
        c,
        subst (λ (j : ℕ). slice_get (s.memory ++ c ∷ []) j ≡ Some c) (sym same) (behind_at s.memory [] c),
        subst (λ (y : Slot). IsOfSlot p y b c) is (record {
          size = size_now;
          align = new.align;
          alive = new.alive;
          writable = new.writable;
          heap = new.heap;
          own = subst (λ (j : ℕ). static_blocks p ≤ j) (sym same) (statics_below p s.memory before.statics);
        }),
      )

      blocks_now : (frame : Frame) (g : Function) (k t b : ℕ) (x : Slot) → slice_get ((with_block slot (Some (length s.memory)) s.top) ∷ s.rest) k ≡ Some frame → IsOf p frame g → slice_get g.graph.slots t ≡ Some x → slot_block frame t ≡ Some b →
          (d : Block) × (slice_get (s.memory ++ c ∷ []) b ≡ Some d) × IsOfSlot p x b d
      blocks_now frame g zero t b x here of is has =
          let same = some_same (with_block slot (Some (length s.memory)) s.top) frame here in
          let of_now : IsOf p s.top g = subst (λ (fr : Frame). IsOf p fr g) same of in
          by of_now (newest_in t b (subst (λ (fr : Frame). slot_block fr t ≡ Some b) same has) (same_or_not t slot.0))
        where
          by : IsOf p s.top g → IsNewest slot.0 (length s.memory) 0 t b ⊎ (slot_block s.top t ≡ Some b) → (d : Block) × (slice_get (s.memory ++ c ∷ []) b ≡ Some d) × IsOfSlot p x b d
          by of_now (inl (first, same, block)) =
              let function : f ≡ g = one_value (slice_get p.functions s.top.function.0) f g stands.of of_now in
              new_block x b (one_value (slice_get g.graph.slots slot.0) known x (subst (λ (h : Function). slice_get h.graph.slots slot.0 ≡ Some known) function there) (subst (λ (j : ℕ). slice_get g.graph.slots j ≡ Some x) same is)) block
          by of_now (inr is_old) = with_new.slots.blocks s.top g 0 t b x refl of_now is is_old
      blocks_now frame g (suc k) t b x here of is has = with_new.slots.blocks frame g (suc k) t b x here of is has
