-- What may come to the blocks so that a state still belongs to its project.
use Rattle.std.specs.Prelude.{ℕ, zero, suc, ◌+◌, ◌≡◌, ◌≢◌, ◌≤◌, ◌<◌, ◌⊎◌, false, true, ℤ, List, [], ◌∷◌, ◌++◌, All, Bool, Some, length, take, slice_get, slice_set, slice_index_or}
use Rattle.std.proofs.Common.{refl, sym, ap, ◌∙◌, subst, arith, inl, inr}
use Rattle.std.proofs.lemmas.Option.{slice_get_within, slice_get-get_or}
use Rattle.po_lists.proofs.Places.{all_at, set_here, set_elsewhere, item_at, kept_at}
use Rattle.po_lists.proofs.Options.{one_value}
use Rattle.po_arith.specs.declared.target.Target.{Target}
use Rattle.po_ir.specs.declared.graph.Slot.{Slot}
use Rattle.po_ir.specs.declared.project.Global.{Global}
use Rattle.po_ir.specs.declared.project.Project.{Project}
use Rattle.po_ir.specs.Whole.{greatest_size}
use Rattle.po_memory.specs.declared.block.Block.{Block}
use Rattle.po_memory.specs.declared.frame.Frame.{Frame}
use Rattle.po_memory.specs.declared.value.Byte.{Byte}
use Rattle.po_memory.specs.declared.value.Byte.TheVariants as byte
use Rattle.po_memory.specs.declared.value.Value.{Value}
use Rattle.po_memory.specs.declared.value.Value.TheVariants.{Number, Null, Pointer, Wild}
use Rattle.po_memory.specs.Since.{BlockSince, Since}
use Rattle.po_meaning.specs.Belongs.{static_blocks, HasEntered, IsOfSlot, SlotsBelong, IsFull, IsOfGlobal, IsOfLiteral, StaticsBelong, IsThere, PointsThere, IsPartThere, FramePoints, Belongs}
use Rattle.po_meaning.specs.Staying.{AreUnwritten}
use Rattle.po_meaning.proofs.Places.{same_or_not}
use Rattle.po_meaning.proofs.States.{state}

pub all_places : {X : Type 0} (P : X → Type 0) (xs : List X) → ((i : ℕ) (x : X) → slice_get xs i ≡ Some x → P x) → All P xs
all_places P xs each = λ k d within. each k (slice_index_or xs k d) (slice_get-get_or xs k d within)

-- what came to a block that was there: it may have ended where Dies holds, and where it is one from malloc or calloc; its bytes may
-- have changed, but none lost its value, and those of a static block that isn't writable are the same
pub record BlockKept (Dies Static : Type 0) (before after : Block) : Type 0 where
  pub size : length after.bytes ≡ length before.bytes
  pub align : after.align ≡ before.align
  pub heap : after.heap ≡ before.heap
  pub writable : after.writable ≡ before.writable
  pub alive : (Dies → ⊥) → before.heap ≡ false → before.alive ≡ true → after.alive ≡ true
  pub full : IsFull before → IsFull after
  pub constant : Static → before.writable ≡ false → after.bytes ≡ before.bytes

abbrev pub BlockIsKept : (ℕ → Type 0) → ℕ → List Block → ℕ → Block → Type 0
BlockIsKept Dies statics after b c = (d : Block) × (slice_get after b ≡ Some d) × BlockKept (Dies b) (b < statics) c d

-- of the blocks so many stand first
abbrev pub Kept : (ℕ → Type 0) → ℕ → List Block → List Block → Type 0
Kept Dies statics before after = (b : ℕ) (c : Block) → slice_get before b ≡ Some c → BlockIsKept Dies statics after b c

pub block_same : (Dies Static : Type 0) (c : Block) → BlockKept Dies Static c c
block_same Dies Static c = record { size = refl; align = refl; heap = refl; writable = refl; alive = λ lives own alive. alive; full = λ full. full; constant = λ static no. refl }

-- ---- by what came to memory

pub since_at : (killed written : Bool) (before after : List Block) (b : ℕ) (c : Block) → Since killed written before after → slice_get before b ≡ Some c → (d : Block) × (slice_get after b ≡ Some d) × BlockSince killed written c d
since_at k w [] after b c since there = absurd (cc)
since_at k w (x ∷ before) [] b c since there = absurd since
since_at k w (x ∷ before) (y ∷ after) zero c since there = (y, refl, subst (λ (z : Block). BlockSince k w z y) (one_value (Some x) x c refl there) since.0)
since_at k w (x ∷ before) (y ∷ after) (suc b) c since there = since_at k w before after b c since.1 there

since_kept : (Static : Type 0) (killed written : Bool) (c d : Block) → BlockSince killed written c d → (Static → c.writable ≡ false → d.bytes ≡ c.bytes) → BlockKept ⊥ Static c d
since_kept Static k w c d since constant = record {
  size = since.size;
  align = since.align;
  heap = since.heap;
  writable = since.writable;
  alive = λ lives own alive. since.own own alive;
  full = λ full i blank. full i (since.filled i blank);
  constant = constant;
}

abbrev pub Lives : ℕ → Type 0
Lives b = ⊥

pub kept_since : (statics : ℕ) (killed written : Bool) (before after : List Block) → Since killed written before after → AreUnwritten statics before after → Kept Lives statics before after
kept_since statics k w before after since unwritten b c there =
    let found = since_at k w before after b c since there in
    (found.0, found.1, since_kept (b < statics) k w c found.0 found.2 (λ static no. let other = unwritten b c static there no in ap (λ (d : Block). d.bytes) (one_value (slice_get after b) found.0 other.0 found.1 other.1) ∙ other.2))

-- ---- pointers

pub there_still : (target : Target) (m w : List Block) (block : ℕ) (offset : ℤ) → length m ≤ length w → IsThere target m block offset → IsThere target w block offset
there_still target m w block offset longer is = record { block_there = let inside = is.block_there in omega (arith, inside, longer); offset_fits = is.offset_fits }

pub points_still : (target : Target) (m w : List Block) (v : Value) → length m ≤ length w → PointsThere target m v → PointsThere target w v
points_still target m w (Number v) longer is = tt
points_still target m w Null longer is = tt
points_still target m w (Pointer block offset) longer is = there_still target m w block offset longer is
points_still target m w Wild longer is = tt

pub part_still : (target : Target) (m w : List Block) (b : Byte) → length m ≤ length w → IsPartThere target m b → IsPartThere target w b
part_still target m w byte.Blank longer is = tt
part_still target m w (byte.Number n) longer is = tt
part_still target m w (byte.Part block offset k) longer is = there_still target m w block offset longer is

pub frame_still : (target : Target) (m w : List Block) (frame : Frame) → length m ≤ length w → FramePoints target m frame → FramePoints target w frame
frame_still target m w frame longer is = record {
  registers = λ r v has. points_still target m w v longer (is.registers r v has);
  arguments = λ i v within. points_still target m w (slice_index_or frame.args i v) longer (is.arguments i v within);
}

pub bytes_still : (target : Target) (m w : List Block) (bytes : List Byte) → length m ≤ length w → All (IsPartThere target m) bytes → All (IsPartThere target w) bytes
bytes_still target m w bytes longer all = λ i b within. part_still target m w (slice_index_or bytes i b) longer (all i b within)

-- ---- the first blocks

-- a list whose places, moved on, all lie below an end
below_end : {X : Type 0} (xs : List X) (start end : ℕ) → start ≤ end → ((i : ℕ) (x : X) → slice_get xs i ≡ Some x → start + i < end) → start + length xs ≤ end
below_end [] start end low each = omega (arith, low)
below_end (x ∷ xs) start end low each =
    let first = each 0 x refl in
    let rest = below_end xs (start + 1) end (omega (arith, first)) (λ i y here. let next = each (suc i) y here in omega (arith, next)) in
    omega (arith, rest)

pub statics_below : (p : Project) (m : List Block) → StaticsBelong p m → static_blocks p ≤ length m
statics_below p m statics =
    let globals = below_end p.globals 0 (length m) (omega arith) (λ k g here. let found = statics.globals k g here in let inside = slice_get_within m k found.0 found.1 in omega (arith, inside)) in
    below_end p.texts (length p.globals) (length m) (omega (arith, globals)) (λ k text here. let found = statics.literals k text here in slice_get_within m (length p.globals + k) found.0 found.1)

global_static : (p : Project) (k : ℕ) (g : Global) → slice_get p.globals k ≡ Some g → k < static_blocks p
global_static p k g here = let inside = slice_get_within p.globals k g here in omega (arith, inside)

literal_static : (p : Project) (k : ℕ) (text : List ℕ) → slice_get p.texts k ≡ Some text → length p.globals + k < static_blocks p
literal_static p k text here = let inside = slice_get_within p.texts k text here in omega (arith, inside)

-- ---- all of a state

module _ (Dies : ℕ → Type 0) (statics : ℕ) (m w : List Block) (kept : Kept Dies statics m w) where
  longer_than : (bound : ℕ) → bound ≤ length m → bound ≤ length w
  longer_than zero inside = omega arith
  longer_than (suc n) inside =
      let last = item_at m n (omega (arith, inside)) in
      let after = kept n last.0 last.1 in
      let here = slice_get_within w n after.0 after.1 in
      omega (arith, here)

  pub longer : length m ≤ length w
  longer = longer_than (length m) (omega arith)

module _ (p : Project) (top : Frame) (rest : List Frame) (m w : List Block) (Dies : ℕ → Type 0) (kept : Kept Dies (static_blocks p) m w) (before : Belongs p (state top rest m))
    (statics_live : (b : ℕ) → Dies b → static_blocks p ≤ b) (slots_live : (k slot b : ℕ) → HasEntered (state top rest m) k slot b → Dies b → ⊥) where
  slot_kept : (slot : Slot) (b : ℕ) (c d : Block) → (Dies b → ⊥) → IsOfSlot p slot b c → BlockKept (Dies b) (b < static_blocks p) c d → IsOfSlot p slot b d
  slot_kept slot b c d lives is k = record {
    size = k.size ∙ is.size;
    align = subst (λ (a : ℕ). slot.align ≤ a) (sym k.align) is.align;
    alive = k.alive lives is.heap is.alive;
    writable = k.writable ∙ is.writable;
    heap = k.heap ∙ is.heap;
    own = is.own;
  }

  slots_kept : SlotsBelong p (state top rest w)
  slots_kept = record {
    blocks = λ frame f k slot b is here of there has.
        let found = before.slots.blocks frame f k slot b is here of there has in
        let after = kept b found.0 found.1 in
        (after.0, after.1, slot_kept is b found.0 after.0 (slots_live k slot b (frame, here, has)) found.2 after.2);
    apart = before.slots.apart;
  }

  global_kept : (g : Global) (k : ℕ) (c d : Block) → (Dies k → ⊥) → IsOfGlobal g c → BlockKept (Dies k) (k < static_blocks p) c d → IsOfGlobal g d
  global_kept g k c d lives is h = record {
    size = subst (λ (n : ℕ). g.size ≤ n) (sym h.size) is.size;
    align = subst (λ (a : ℕ). g.align ≤ a) (sym h.align) is.align;
    alive = h.alive lives is.heap is.alive;
    writable = h.writable ∙ is.writable;
    heap = h.heap ∙ is.heap;
    full = h.full is.full;
  }

  literal_kept : (text : List ℕ) (k : ℕ) (c d : Block) → (Dies k → ⊥) → k < static_blocks p → IsOfLiteral text c → BlockKept (Dies k) (k < static_blocks p) c d → IsOfLiteral text d
  literal_kept text k c d lives static is h = record {
    bytes = ap (take (length text + 1)) (h.constant static is.writable) ∙ is.bytes;
    align = subst (λ (a : ℕ). 1 ≤ a) (sym h.align) is.align;
    alive = h.alive lives is.heap is.alive;
    writable = h.writable ∙ is.writable;
    heap = h.heap ∙ is.heap;
    full = h.full is.full;
  }

  statics_kept : StaticsBelong p w
  statics_kept = record {
    globals = λ k g here.
        let found = before.statics.globals k g here in
        let after = kept k found.0 found.1 in
        (after.0, after.1, global_kept g k found.0 after.0 (λ dies. let low = statics_live k dies in let high = global_static p k g here in absurd (omega (arith, low, high))) found.2 after.2);
    literals = λ k text here.
        let found = before.statics.literals k text here in
        let after = kept (length p.globals + k) found.0 found.1 in
        (after.0, after.1, literal_kept text (length p.globals + k) found.0 after.0 (λ dies. let low = statics_live (length p.globals + k) dies in let high = literal_static p k text here in absurd (omega (arith, low, high))) (literal_static p k text here) found.2 after.2);
  }

  pub belongs_after : All (λ (c : Block). length c.bytes ≤ greatest_size) w → All (λ (c : Block). All (IsPartThere p.target w) c.bytes) w → Belongs p (state top rest w)
  belongs_after sizes parts = record {
    each_frame = before.each_frame;
    waiting = before.waiting;
    slots = slots_kept;
    sizes = sizes;
    statics = statics_kept;
    pointers = record {
      frames_point = λ i frame within. frame_still p.target m w (slice_index_or (top ∷ rest) i frame) (longer Dies (static_blocks p) m w kept) (before.pointers.frames_point i frame within);
      blocks_point = parts;
    };
  }

-- ---- one block that changes, and one more

module _ (m : List Block) (b : ℕ) (c d : Block) (there : slice_get m b ≡ Some c) where
  pub changed_here : slice_get (slice_set m b d) b ≡ Some d
  changed_here = set_here m b d (slice_get_within m b c there)

  pub set_kept : (Dies : ℕ → Type 0) (statics : ℕ) → BlockKept (Dies b) (b < statics) c d → Kept Dies statics m (slice_set m b d)
  set_kept Dies statics k j x here = by (same_or_not j b)
    where
      by : (j ≡ b) ⊎ (j ≢ b) → BlockIsKept Dies statics (slice_set m b d) j x
      by (inl same) =
          let known : c ≡ x = one_value (slice_get m b) c x there (subst (λ (i : ℕ). slice_get m i ≡ Some x) same here) in
          subst (λ (i : ℕ). BlockIsKept Dies statics (slice_set m b d) i x) (sym same) (d, changed_here, subst (λ (y : Block). BlockKept (Dies b) (b < statics) y d) known k)
      by (inr other) = (x, set_elsewhere m b j d other ∙ here, block_same (Dies j) (j < statics) x)

  pub set_all : (P : Block → Type 0) → All P m → P d → All P (slice_set m b d)
  set_all P all is = all_places P (slice_set m b d) (λ j x here. by j x here (same_or_not j b))
    where
      by : (j : ℕ) (x : Block) → slice_get (slice_set m b d) j ≡ Some x → (j ≡ b) ⊎ (j ≢ b) → P x
      by j x here (inl same) = subst P (one_value (slice_get (slice_set m b d) b) d x changed_here (subst (λ (i : ℕ). slice_get (slice_set m b d) i ≡ Some x) same here)) is
      by j x here (inr other) = all_at P m j x all (sym (set_elsewhere m b j d other) ∙ here)

pub new_kept : (statics : ℕ) (m : List Block) (c : Block) → Kept Lives statics m (m ++ c ∷ [])
new_kept statics m c b x here = (x, kept_at m (c ∷ []) b x here, block_same ⊥ (b < statics) x)
