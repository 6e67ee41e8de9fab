-- Bytes of a block, as the code finds and writes them. Private clauses alone cite these words.
use Rattle.std.specs.Prelude.{ℕ, ◌+◌, ◌≡◌, ◌≤◌, pos, List, Option, Some, MatchOption, length, slice_get, slice_range}
use Rattle.po_memory.specs.declared.block.Block.{Block}
use Rattle.po_memory.specs.declared.value.Byte.{Byte}
use Rattle.po_memory.specs.declared.value.Value.{Value}
use Rattle.po_memory.specs.declared.value.Value.TheVariants.{Pointer}
use Rattle.po_memory.specs.Accesses.{PointsInto}
use Rattle.po_operate.specs.declared.accesses.Room.{Room}

-- the block has so many bytes from the place on
pub record HasRoom (blocks : List Block) (block start size : ℕ) : Type 0 where
  pub whole : Block
  pub there : slice_get blocks block ≡ Some whole
  pub within : start + size ≤ length whole.bytes

-- the pointer points to so many bytes
pub record IsRoomOf (blocks : List Block) (v : Value) (size : ℕ) (room : Room) : Type 0 where
  pub pointer : v ≡ Pointer room.block (pos room.start)
  pub there : HasRoom blocks room.block room.start size

abbrev pub PointsNowhere : List Block → Value → Type 0
PointsNowhere blocks v = (block start : ℕ) (c : Block) → PointsInto blocks v block start c → ⊥

abbrev pub FindsRoom : List Block → Value → ℕ → Option Room → Type 0
FindsRoom blocks v size found = MatchOption found (PointsNowhere blocks v) (IsRoomOf blocks v size)

-- these are so many bytes of the block from the place on
abbrev pub AreBytesAt : List Block → ℕ → ℕ → ℕ → List Byte → Type 0
AreBytesAt blocks block start size bytes = (whole : Block) × (slice_get blocks block ≡ Some whole) × (bytes ≡ slice_range whole.bytes start (start + size))
