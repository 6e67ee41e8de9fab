-- Loads, stores and copies: what they ask of a place, what they read there, and what they make of the blocks.
use Rattle.std.specs.Prelude.{ℕ, ◌+◌, ◌<◌, ◌≡◌, ◌↔◌, ltb, pos, List, [], ◌∷◌, ◌++◌, All, Some, None, false, cond, length, take, drop, slice_get, slice_set, slice_range}
use Rattle.po_pred.specs.declared.pred.Place.{Place}
use Rattle.po_pred.specs.declared.pred.Pred.{Pred}
use Rattle.po_pred.specs.declared.pred.Pred.TheVariants.{NotNull, Live, Span, Filled, Writable, Aligned}
use Rattle.po_ir.specs.declared.instr.Access.{Access}
use Rattle.po_memory.specs.declared.block.Block.{Block}
use Rattle.po_memory.specs.declared.frame.Frame.{Frame}
use Rattle.po_memory.specs.declared.value.Byte.{Byte}
use Rattle.po_memory.specs.declared.value.Value.{Value}
use Rattle.po_memory.specs.declared.value.Value.TheVariants.{Pointer}
use Rattle.po_memory.specs.Values.{pointer_base}
use Rattle.po_memory.specs.Blocks.{IsLive, Spans, IsFilled, IsWritable, IsAligned, OnPointer, IsNotNull}
use Rattle.po_memory.specs.Holding.{Holds}
use Rattle.po_memory.specs.Bytes.{AreRead, AreStored, AreCopied, IsAccess, LiesIn, zeros}

-- ---- what is asked of a place

-- what a load asks of the pointer that it reads by (6.5.3.2p4, 6.2.4p2, 6.2.4p5)
pub record LoadAllowed (access : Access) (blocks : List Block) (at : Value) : Type 0 where
  pub not_null : IsNotNull at
  pub live : OnPointer IsLive blocks at
  pub span : OnPointer (Spans (pos 0) (pos access.size)) blocks at
  pub aligned : 1 < access.align → OnPointer (IsAligned access.align) blocks at
  pub filled : OnPointer (IsFilled (pos 0) (pos access.size)) blocks at

-- what a store asks of the pointer that it writes by (6.5.3.2p4, 6.2.4p2, 6.4.5p6, 6.7.3p5)
pub record StoreAllowed (access : Access) (blocks : List Block) (at : Value) : Type 0 where
  pub not_null : IsNotNull at
  pub live : OnPointer IsLive blocks at
  pub span : OnPointer (Spans (pos 0) (pos access.size)) blocks at
  pub aligned : 1 < access.align → OnPointer (IsAligned access.align) blocks at
  pub writable : OnPointer IsWritable blocks at

abbrev pub number_place : ℕ → Place
number_place n = record { atom = None; lo = pos n; hi = pos n }

-- the alignment is asked for where it is above 1
abbrev pub alignment_asked : Place → ℕ → List Pred
alignment_asked p a = cond (ltb 1 a) (Aligned p a ∷ []) []

-- the predicates that a load by the pointer of this place asks for, in their order
abbrev pub load_asked : Place → Access → List Pred
load_asked p access = NotNull p ∷ (Live p ∷ (Span p (pos 1) (number_place 0) (number_place access.size) ∷ (alignment_asked p access.align ++ Filled p (pos 1) (number_place 0) (number_place access.size) ∷ [])))

-- those that a store asks for
abbrev pub store_asked : Place → Access → List Pred
store_asked p access = NotNull p ∷ (Live p ∷ (Span p (pos 1) (number_place 0) (number_place access.size) ∷ (alignment_asked p access.align ++ Writable p ∷ [])))

-- the place has this one value
pub record Means (f : Frame) (p : Place) (at : Value) : Type 0 where
  pub base : pointer_base f p.atom ≡ Some at
  pub low : p.lo ≡ pos 0
  pub high : p.hi ≡ pos 0

-- a load is allowed exactly where all its predicates hold
abbrev pub LoadAsks : Type 0
LoadAsks = (f : Frame) (blocks : List Block) (p : Place) (at : Value) (access : Access) → Means f p at → All (Holds f blocks) (load_asked p access) ↔ LoadAllowed access blocks at

-- and a store
abbrev pub StoreAsks : Type 0
StoreAsks = (f : Frame) (blocks : List Block) (p : Place) (at : Value) (access : Access) → Means f p at → All (Holds f blocks) (store_asked p access) ↔ StoreAllowed access blocks at

-- ---- what is read, and what becomes of the blocks

-- the pointer points so far into this block
pub record PointsInto (blocks : List Block) (at : Value) (block start : ℕ) (c : Block) : Type 0 where
  pub pointer : at ≡ Pointer block (pos start)
  pub there : slice_get blocks block ≡ Some c

-- these are so many bytes from the pointer on
pub record Reads (blocks : List Block) (at : Value) (size : ℕ) (bytes : List Byte) : Type 0 where
  pub block : ℕ
  pub start : ℕ
  pub whole : Block
  pub points : PointsInto blocks at block start whole
  pub same : bytes ≡ slice_range whole.bytes start (start + size)

-- bytes written over others from a place on
abbrev pub pasted : List Byte → ℕ → List Byte → List Byte
pasted old start bytes = take start old ++ (bytes ++ drop (start + length bytes) old)

abbrev pub overwritten : Block → ℕ → List Byte → Block
overwritten c start bytes = record c { bytes = pasted c.bytes start bytes }

-- the bytes are written from the pointer on, and nothing else changes
pub record Writes (blocks : List Block) (at : Value) (bytes : List Byte) (after : List Block) : Type 0 where
  pub block : ℕ
  pub start : ℕ
  pub whole : Block
  pub points : PointsInto blocks at block start whole
  pub becomes : after ≡ slice_set blocks block (overwritten whole start bytes)

-- a load by the pointer may give this value
abbrev pub Loads : Access → List Block → Value → Value → Type 0
Loads access blocks at v = (bytes : List Byte) × Reads blocks at access.size bytes × AreRead access.ty bytes v

-- a store of this value by the pointer may make these blocks
abbrev pub Stores : Access → List Block → Value → Value → List Block → Type 0
Stores access blocks at v after = (bytes : List Byte) × AreStored access.size v bytes × Writes blocks at bytes after

-- a copy of so many bytes, all at once, from the second pointer on to the first may make these blocks
pub record Copies (size : ℕ) (blocks : List Block) (to from : Value) (after : List Block) : Type 0 where
  pub source : List Byte
  pub old : List Byte
  pub bytes : List Byte
  pub reads : Reads blocks from size source
  pub onto : Reads blocks to size old
  pub copied : AreCopied source old bytes
  pub writes : Writes blocks to bytes after

-- so many bytes from the start of a block on become 0
abbrev pub Fills : ℕ → List Block → ℕ → List Block → Type 0
Fills size blocks block after = Writes blocks (Pointer block (pos 0)) (zeros size) after

abbrev pub killed : Block → Block
killed c = record c { alive = false }

-- the block's lifetime ends (6.2.4p2, 7.20.3.2p2)
pub record Kills (blocks : List Block) (block : ℕ) (after : List Block) : Type 0 where
  pub whole : Block
  pub there : slice_get blocks block ≡ Some whole
  pub becomes : after ≡ slice_set blocks block (killed whole)

-- what a store wrote a load by the same access reads, and it is allowed
pub record ReadsBack (access : Access) (after : List Block) (at v : Value) : Type 0 where
  pub allowed : LoadAllowed access after at
  pub there : Loads access after at v
  pub only : (w : Value) → Loads access after at w → w ≡ v

abbrev pub StoresAreRead : Type 0
StoresAreRead = (access : Access) (blocks after : List Block) (at v : Value) → IsAccess access → LiesIn access.ty v → StoreAllowed access blocks at → Stores access blocks at v after → ReadsBack access after at v
