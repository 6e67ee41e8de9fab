-- What may have come to memory: further blocks, kills and writes. Nothing else ever comes to a block.
use Rattle.std.specs.Prelude.{ℕ, ◌≡◌, ◌≤◌, pos, List, [], ◌∷◌, ◌++◌, Bool, true, false, Some, length, slice_get, slice_set}
use Rattle.po_ir.specs.declared.instr.Access.{Access}
use Rattle.po_memory.specs.declared.block.Block.{Block}
use Rattle.po_memory.specs.declared.value.Byte.TheVariants.{Blank}
use Rattle.po_memory.specs.declared.value.Value.{Value}
use Rattle.po_memory.specs.declared.value.Value.TheVariants.{Pointer}
use Rattle.po_memory.specs.Blocks.{Spans, OnPointer}
use Rattle.po_memory.specs.Accesses.{Stores, Copies, Fills, Kills, StoreAllowed}

-- what may have come to a block: it was killed where the first flag is set, and some of its bytes were written where the second
-- is. Only a block from malloc or calloc is killed, and a byte that has a value keeps one.
pub record BlockSince (killed written : Bool) (before after : Block) : Type 0 where
  pub size : length after.bytes ≡ length before.bytes
  pub align : after.align ≡ before.align
  pub heap : after.heap ≡ before.heap
  pub writable : after.writable ≡ before.writable
  pub kept : killed ≡ false → before.alive ≡ true → after.alive ≡ true
  pub own : before.heap ≡ false → before.alive ≡ true → after.alive ≡ true
  pub unwritten : written ≡ false → after.bytes ≡ before.bytes
  pub filled : (i : ℕ) → slice_get after.bytes i ≡ Some Blank → slice_get before.bytes i ≡ Some Blank

-- each block is still there, and no more than this came to it; of further blocks nothing is said
abbrev pub Since : Bool → Bool → List Block → List Block → Type 0
Since killed written [] after = Unit {0}
Since killed written (b ∷ bs) [] = ⊥
Since killed written (b ∷ bs) (c ∷ cs) = BlockSince killed written b c × Since killed written bs cs

-- ---- laws

-- a store, a copy and a fill write, and do nothing else
abbrev pub StoresKeep : Type 0
StoresKeep = (access : Access) (blocks : List Block) (at v : Value) (after : List Block) → StoreAllowed access blocks at → Stores access blocks at v after → Since false true blocks after

abbrev pub CopiesKeep : Type 0
CopiesKeep = (size : ℕ) (blocks : List Block) (to from : Value) (after : List Block) → OnPointer (Spans (pos 0) (pos size)) blocks to → Copies size blocks to from after → Since false true blocks after

abbrev pub FillsKeep : Type 0
FillsKeep = (size : ℕ) (blocks : List Block) (block : ℕ) (after : List Block) → OnPointer (Spans (pos 0) (pos size)) blocks (Pointer block (pos 0)) → Fills size blocks block after → Since false true blocks after

-- a kill of a block from malloc or calloc kills, and does nothing else
abbrev pub KillsKeep : Type 0
KillsKeep = (blocks : List Block) (block : ℕ) (after : List Block) (kills : Kills blocks block after) → kills.whole.heap ≡ true → Since true false blocks after

-- a new block changes none that was there
abbrev pub NewKeeps : Type 0
NewKeeps = (killed written : Bool) (before blocks : List Block) (c : Block) → Since killed written before blocks → Since killed written before (blocks ++ c ∷ [])

-- nor does a change of a block that came later
abbrev pub FreshKeeps : Type 0
FreshKeeps = (killed written : Bool) (before blocks : List Block) (block : ℕ) (c : Block) → Since killed written before blocks → length before ≤ block → Since killed written before (slice_set blocks block c)

abbrev pub SinceItself : Type 0
SinceItself = (killed written : Bool) (blocks : List Block) → Since killed written blocks blocks

abbrev pub SinceThrough : Type 0
SinceThrough = (killed written : Bool) (before between after : List Block) → Since killed written before between → Since killed written between after → Since killed written before after

-- less may be said
abbrev pub SinceFurther : Type 0
SinceFurther = (killed written kills writes : Bool) (before after : List Block) → (kills ≡ false → killed ≡ false) → (writes ≡ false → written ≡ false) → Since killed written before after → Since kills writes before after
