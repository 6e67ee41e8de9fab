-- What came to memory by stores, copies, fills and kills.
use Rattle.std.proofs.Common.{◌≡◌, ◌≤◌, ◌<◌, ◌+◌, ℕ, zero, suc, List, [], ◌∷◌, arith, sym, ap, refl, subst, ◌∙◌, length}
use Rattle.std.specs.Prelude.{pos, ◌+ℤ◌, ◌≤ℤ◌, Bool, true, false, Some, map, slice_get, slice_set, slice_range}
use Rattle.std.specs.List.{range_with_len}
use Rattle.std.proofs.lemmas.Int.{ints}
use Rattle.std.proofs.lemmas.List.FromFn.{length-map-range_with_len}
use Rattle.std.proofs.lemmas.List.{length-replicate}
use Rattle.std.proofs.lemmas.Option.{same_Some}
use Rattle.po_memory.specs.declared.block.Block.{Block}
use Rattle.po_memory.specs.declared.value.Byte.{Byte}
use Rattle.po_memory.specs.declared.value.Byte.TheVariants as byte
use Rattle.po_memory.specs.declared.value.Value.{Value}
use Rattle.po_memory.specs.declared.value.Value.TheVariants.{Number, Null, Pointer, Wild}
use Rattle.po_memory.specs.Blocks.{Spans, OnBlock, OnPointer}
use Rattle.po_memory.specs.Bytes.{AreStored, IsCopied, AreCopied, zeros}
use Rattle.po_memory.specs.Accesses.{PointsInto, Writes, overwritten, killed}
use Rattle.po_memory.specs.Since.{BlockSince, Since, StoresKeep, CopiesKeep, FillsKeep, KillsKeep, NewKeeps, SinceItself, SinceThrough, SinceFurther, FreshKeeps}
use Rattle.po_memory.proofs.General.{replicate_each}
use Rattle.po_memory.proofs.Pasted.{pasted_size, pasted_keeps, get_range, range_size, mapped_at}

-- ---- blocks

block_itself : (k w : Bool) (b : Block) → BlockSince k w b b
block_itself k w b = record { size = refl; align = refl; heap = refl; writable = refl; kept = λ no alive. alive; own = λ no alive. alive; unwritten = λ no. refl; filled = λ i blank. blank }

pub itself : SinceItself
itself k w [] = tt
itself k w (b ∷ bs) = (block_itself k w b, itself k w bs)

block_through : (k w : Bool) (b c d : Block) → BlockSince k w b c → BlockSince k w c d → BlockSince k w b d
block_through k w b c d one two = record {
  size = two.size ∙ one.size;
  align = two.align ∙ one.align;
  heap = two.heap ∙ one.heap;
  writable = two.writable ∙ one.writable;
  kept = λ no alive. two.kept no (one.kept no alive);
  own = λ no alive. two.own (one.heap ∙ no) (one.own no alive);
  unwritten = λ no. two.unwritten no ∙ one.unwritten no;
  filled = λ i blank. one.filled i (two.filled i blank);
}

pub through : SinceThrough
through k w [] bs cs one two = tt
through k w (a ∷ as_) [] cs one two = absurd one
through k w (a ∷ as_) (b ∷ bs) [] one two = absurd two
through k w (a ∷ as_) (b ∷ bs) (c ∷ cs) one two = (block_through k w a b c one.0 two.0, through k w as_ bs cs one.1 two.1)

block_further : (k w k' w' : Bool) (b c : Block) → (k' ≡ false → k ≡ false) → (w' ≡ false → w ≡ false) → BlockSince k w b c → BlockSince k' w' b c
block_further k w k' w' b c kills writes h = record { size = h.size; align = h.align; heap = h.heap; writable = h.writable; kept = λ no. h.kept (kills no); own = h.own; unwritten = λ no. h.unwritten (writes no); filled = h.filled }

pub further : SinceFurther
further k w k' w' [] cs kills writes h = tt
further k w k' w' (b ∷ bs) [] kills writes h = absurd h
further k w k' w' (b ∷ bs) (c ∷ cs) kills writes h = (block_further k w k' w' b c kills writes h.0, further k w k' w' bs cs kills writes h.1)

since_set : (k w : Bool) (bs : List Block) (i : ℕ) (b c : Block) → slice_get bs i ≡ Some b → BlockSince k w b c → Since k w bs (slice_set bs i c)
since_set k w [] i b c there h = absurd (cc)
since_set k w (x ∷ bs) zero b c there h = (subst (λ y. BlockSince k w y c) (sym (same_Some x b there)) h, itself k w bs)
since_set k w (x ∷ bs) (suc i) b c there h = (block_itself k w x, since_set k w bs i b c there h)

pub new_keeps : NewKeeps
new_keeps k w [] bs c h = tt
new_keeps k w (a ∷ as_) [] c h = absurd h
new_keeps k w (a ∷ as_) (b ∷ bs) c h = (h.0, new_keeps k w as_ bs c h.1)

pub fresh_keeps : FreshKeeps
fresh_keeps k w [] bs i c h past = tt
fresh_keeps k w (a ∷ as_) [] i c h past = absurd h
fresh_keeps k w (a ∷ as_) (b ∷ bs) zero c h past = absurd (omega arith)
fresh_keeps k w (a ∷ as_) (b ∷ bs) (suc i) c h past = (h.0, fresh_keeps k w as_ bs i c h.1 (omega arith))

-- ---- writes

written_block : (b : Block) (start : ℕ) (bytes : List Byte) → start + length bytes ≤ length b.bytes → ((i : ℕ) → i < length bytes → slice_get bytes i ≡ Some byte.Blank → slice_get b.bytes (start + i) ≡ Some byte.Blank) → BlockSince false true b (overwritten b start bytes)
written_block b start bytes room keeps = record {
  size = pasted_size b.bytes start bytes room;
  align = refl;
  heap = refl;
  writable = refl;
  kept = λ no alive. alive;
  own = λ no alive. alive;
  unwritten = λ no. absurd (cc);
  filled = pasted_keeps b.bytes start bytes room byte.Blank keeps;
}

-- so many bytes from a place on in the block of a pointer
pub room_of : (blocks : List Block) (at : Value) (block start size : ℕ) (c : Block) → PointsInto blocks at block start c → OnPointer (Spans (pos 0) (pos size)) blocks at → start + size ≤ length c.bytes
room_of blocks at block start size c points spans =
    let on : OnBlock (Spans (pos 0) (pos size)) (pos start) (slice_get blocks block) = subst (OnPointer (Spans (pos 0) (pos size)) blocks) points.pointer spans in
    let so : Spans (pos 0) (pos size) (pos start) c = subst (OnBlock (Spans (pos 0) (pos size)) (pos start)) points.there on in
    let high : (pos start +ℤ pos size) ≤ℤ pos (length c.bytes) = so.1.1 in
    omega (arith, ints)

writes_keep : (blocks after : List Block) (at : Value) (bytes : List Byte) (w : Writes blocks at bytes after) → w.start + length bytes ≤ length w.whole.bytes → ((i : ℕ) → i < length bytes → slice_get bytes i ≡ Some byte.Blank → slice_get w.whole.bytes (w.start + i) ≡ Some byte.Blank) → Since false true blocks after
writes_keep blocks after at bytes w room keeps =
    subst (Since false true blocks) (sym w.becomes) (since_set false true blocks w.block w.whole (overwritten w.whole w.start bytes) w.points.there (written_block w.whole w.start bytes room keeps))

-- ---- stores and fills

zero_bytes_filled : (size i : ℕ) → slice_get (zeros size) i ≡ Some byte.Blank → ⊥
zero_bytes_filled size i e =
    let it = mapped_at (λ (k : ℕ). byte.Number 0) (range_with_len 0 size) i byte.Blank (ap (λ xs. slice_get xs i) (replicate_each (byte.Number 0) size 0) ∙ e) in
    let clash = it.1 in
    cc

number_bytes_filled : (ns : List ℕ) (bytes : List Byte) (i : ℕ) → bytes ≡ map byte.Number ns → slice_get bytes i ≡ Some byte.Blank → ⊥
number_bytes_filled ns bytes i same e =
    let it = mapped_at byte.Number ns i byte.Blank (ap (λ xs. slice_get xs i) (sym same) ∙ e) in
    let clash = it.1 in
    cc

pub stored_filled : (size : ℕ) (v : Value) (bytes : List Byte) (i : ℕ) → AreStored size v bytes → slice_get bytes i ≡ Some byte.Blank → ⊥
stored_filled size (Number v) bytes i are e = number_bytes_filled are.1.0 bytes i are.1.1.same e
stored_filled size Null bytes i are e = zero_bytes_filled size i (ap (λ xs. slice_get xs i) (sym are) ∙ e)
stored_filled size (Pointer block offset) bytes i are e =
    let it = mapped_at (λ k. byte.Part block offset k) (range_with_len 0 size) i byte.Blank (ap (λ xs. slice_get xs i) (sym are) ∙ e) in
    let clash = it.1 in
    cc
stored_filled size Wild bytes i are e = number_bytes_filled are.1.numbers bytes i are.1.are.same e

pub stored_size : (size : ℕ) (v : Value) (bytes : List Byte) → AreStored size v bytes → length bytes ≡ size
stored_size size (Number v) bytes are = are.0
stored_size size Null bytes are = ap length are ∙ length-replicate size (byte.Number 0)
stored_size size (Pointer block offset) bytes are = ap length are ∙ length-map-range_with_len (λ k. byte.Part block offset k) 0 size
stored_size size Wild bytes are = are.0

pub stores_keep : StoresKeep
stores_keep access blocks at v after allowed (bytes, are, writes) =
    let count = stored_size access.size v bytes are in
    let room = room_of blocks at writes.block writes.start access.size writes.whole writes.points allowed.span in
    writes_keep blocks after at bytes writes (omega arith) (λ i less blank. absurd (stored_filled access.size v bytes i are blank))

pub fills_keep : FillsKeep
fills_keep size blocks block after spans writes =
    let count : length (zeros size) ≡ size = length-replicate size (byte.Number 0) in
    let room = room_of blocks (Pointer block (pos 0)) writes.block writes.start size writes.whole writes.points spans in
    writes_keep blocks after (Pointer block (pos 0)) (zeros size) writes (omega arith) (λ i less blank. absurd (zero_bytes_filled size i blank))

-- ---- copies

blank_copied : (from old : Byte) → IsCopied from old byte.Blank → old ≡ byte.Blank
blank_copied byte.Blank byte.Blank h = refl
blank_copied byte.Blank (byte.Number n) (m, few, e) = absurd (cc)
blank_copied byte.Blank (byte.Part block offset k) (m, few, e) = absurd (cc)
blank_copied (byte.Number n) old h = absurd (cc)
blank_copied (byte.Part block offset k) old h = absurd (cc)

blanks_copied : (source old bytes : List Byte) (i : ℕ) → AreCopied source old bytes → slice_get bytes i ≡ Some byte.Blank → slice_get old i ≡ Some byte.Blank
blanks_copied [] [] [] i h e = absurd (cc)
blanks_copied [] [] (r ∷ rs) i h e = absurd h
blanks_copied [] (o ∷ os) rs i h e = absurd h
blanks_copied (s ∷ ss) [] rs i h e = absurd h
blanks_copied (s ∷ ss) (o ∷ os) [] i h e = absurd h
blanks_copied (s ∷ ss) (o ∷ os) (r ∷ rs) zero h e = ap Some (blank_copied s o (subst (IsCopied s o) (same_Some r byte.Blank e) h.0))
blanks_copied (s ∷ ss) (o ∷ os) (r ∷ rs) (suc i) h e = blanks_copied ss os rs i h.1 e

pub copied_size : (source old bytes : List Byte) → AreCopied source old bytes → length bytes ≡ length old
copied_size [] [] [] h = refl
copied_size [] [] (r ∷ rs) h = absurd h
copied_size [] (o ∷ os) rs h = absurd h
copied_size (s ∷ ss) [] rs h = absurd h
copied_size (s ∷ ss) (o ∷ os) [] h = absurd h
copied_size (s ∷ ss) (o ∷ os) (r ∷ rs) h = ap suc (copied_size ss os rs h.1)

-- a pointer points into one block at one place
pub one_place : (blocks : List Block) (at : Value) (b s b' s' : ℕ) (c c' : Block) → PointsInto blocks at b s c → PointsInto blocks at b' s' c' → (b ≡ b') × (s ≡ s') × (c ≡ c')
one_place blocks at b s b' s' c c' one two =
    let same : Pointer b (pos s) ≡ Pointer b' (pos s') = sym one.pointer ∙ two.pointer in
    let block : b ≡ b' = cc in
    let offset : pos s ≡ pos s' = cc in
    let start : s ≡ s' = omega (arith, ints) in
    (block, start, same_Some c c' (sym one.there ∙ (ap (slice_get blocks) block ∙ two.there)))

pub copies_keep : CopiesKeep
copies_keep size blocks to from after spans h =
    let w = h.writes in
    let same = one_place blocks to h.onto.block h.onto.start w.block w.start h.onto.whole w.whole h.onto.points w.points in
    let room = room_of blocks to w.block w.start size w.whole w.points spans in
    let old : h.old ≡ slice_range w.whole.bytes w.start (w.start + size) = h.onto.same ∙ (ap (λ (c : Block). slice_range c.bytes h.onto.start (h.onto.start + size)) same.2 ∙ ap (λ s. slice_range w.whole.bytes s (s + size)) same.1) in
    let count : length h.bytes ≡ size = copied_size h.source h.old h.bytes h.copied ∙ (ap length old ∙ range_size w.whole.bytes w.start size room) in
    writes_keep blocks after to h.bytes w (omega arith)
    (λ i less blank. sym (get_range w.whole.bytes w.start size i (omega arith)) ∙ (ap (λ xs. slice_get xs i) (sym old) ∙ blanks_copied h.source h.old h.bytes i h.copied blank))

-- ---- kills

pub kills_keep : KillsKeep
kills_keep blocks block after h heap =
    subst (Since true false blocks) (sym h.becomes)
    (since_set true false blocks block h.whole (killed h.whole) h.there (record { size = refl; align = refl; heap = refl; writable = refl; kept = λ no. absurd (cc); own = λ no. let clash : true ≡ false = sym heap ∙ no in absurd (cc); unwritten = λ no. refl; filled = λ i blank. blank }))
