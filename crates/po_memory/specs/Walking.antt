-- What the code finds and writes byte by byte. Private clauses alone cite these words.
use Rattle.std.specs.Prelude.{ℕ, ◌+◌, ◌*◌, ◌/◌, ◌%◌, ◌^◌, ◌≤◌, ◌<◌, ◌≡◌, ◌≢◌, ℤ, pos, negsuc, min, List, Some, true, length, map, slice_get, slice_set, slice_range}
use Rattle.std.specs.List.{range_with_len}
use Rattle.po_arith.specs.declared.int_type.IntType.{IntType}
use Rattle.po_arith.specs.Types.{IsOfType, IsWrapped, AreCongruent}
use Rattle.po_ir.specs.declared.instr.Ty.{Ty}
use Rattle.po_ir.specs.declared.instr.Ty.TheVariants.{Int, Ptr}
use Rattle.po_ir.specs.declared.instr.Access.{Access}
use Rattle.po_memory.specs.declared.block.Block.{Block}
use Rattle.po_memory.specs.declared.block.Stretch.{Stretch}
use Rattle.po_memory.specs.declared.value.Byte.{Byte}
use Rattle.po_memory.specs.declared.value.Byte.TheVariants as byte
use Rattle.po_memory.specs.declared.value.Value.{Value}
use Rattle.po_memory.specs.declared.value.Value.TheVariants.{Number, Null, Pointer, Wild}
use Rattle.po_memory.specs.Blocks.{Spans, IsAligned, IsFilled}
use Rattle.po_memory.specs.Bytes.{AreNumbers, joined, AreRead, AreStored}
use Rattle.po_memory.specs.Accesses.{Reads, pasted, overwritten}

-- the place nearest to z among those from 0 up to the size
abbrev pub clamped : ℤ → ℕ → ℕ
clamped (pos n) size = min n size
clamped (negsuc n) size = 0

-- so many bytes from the place on, in the block
pub record IsStretch (place : ℤ) (size : ℕ) (c : Block) (s : Stretch) : Type 0 where
  pub at : place ≡ pos s.start
  pub end : s.end ≡ s.start + size
  pub within : s.end ≤ length c.bytes

-- no byte from the one place up to, not including, the other have values
abbrev pub HaveValuesFrom : ℕ → ℕ → List Byte → Type 0
HaveValuesFrom start end bytes = (i : ℕ) → start ≤ i → i < end → slice_get bytes i ≢ Some byte.Blank

-- the k-th byte of a number of 64 bits, the lowest first
abbrev pub digit : ℕ → ℕ → ℕ
digit word k = word / 2 ^ (8 * k) % 256

-- the k-th byte of a value, of which a number stands in the word; a wild pointer is written as bytes of 255
abbrev pub written_byte : Value → ℕ → ℕ → Byte
written_byte (Number v) word k = byte.Number (digit word k)
written_byte Null word k = byte.Number 0
written_byte (Pointer block offset) word k = byte.Part block offset k
written_byte Wild word k = byte.Number 255

abbrev pub written_bytes : Value → ℕ → ℕ → List Byte
written_bytes v word size = map (written_byte v word) (range_with_len 0 size)

-- ---- reading

-- some byte is no number
abbrev pub AreNoNumbers : List Byte → Type 0
AreNoNumbers bytes = (numbers : List ℕ) → AreNumbers numbers bytes → ⊥

-- the bytes are numbers, and this is the number of them
pub record AreJoined (bytes : List Byte) (sum : ℕ) : Type 0 where
  pub numbers : List ℕ
  pub are : AreNumbers numbers bytes
  pub same : sum ≡ joined numbers

-- of the numbers that bytes may be as one of the type: theirs, wrapped to the type, and 0 where some byte is no number
pub record IsChosenNumber (t : IntType) (bytes : List Byte) (v : ℤ) : Type 0 where
  pub of_type : IsOfType t v
  pub wrapped : (numbers : List ℕ) → AreNumbers numbers bytes → IsWrapped t (pos (joined numbers)) v
  pub none : AreNoNumbers bytes → v ≡ pos 0

abbrev pub IsChosenValue : Ty → List Byte → Value → Type 0
IsChosenValue (Int t) bytes (Number v) = IsChosenNumber t bytes v
IsChosenValue (Int t) bytes Null = ⊥
IsChosenValue (Int t) bytes (Pointer block offset) = ⊥
IsChosenValue (Int t) bytes Wild = ⊥
IsChosenValue Ptr bytes v = Unit {0}

-- a value that is read by the pointer, of those that may be
abbrev pub IsChosen : Access → List Block → Value → Value → Type 0
IsChosen access blocks at v = (bytes : List Byte) → Reads blocks at access.size bytes → IsChosenValue access.ty bytes v

-- what a load asks of the block and the place in it
pub record AllowsLoad (access : Access) (o : ℤ) (c : Block) : Type 0 where
  pub live : c.alive ≡ true
  pub span : Spans (pos 0) (pos access.size) o c
  pub aligned : 1 < access.align → IsAligned access.align o c
  pub filled : IsFilled (pos 0) (pos access.size) o c

-- what a store asks of them
pub record AllowsStore (access : Access) (o : ℤ) (c : Block) : Type 0 where
  pub live : c.alive ≡ true
  pub span : Spans (pos 0) (pos access.size) o c
  pub aligned : 1 < access.align → IsAligned access.align o c
  pub writable : c.writable ≡ true

-- what is left to ask for a load of bytes of the block, from the place on
pub record IsLoadable (align : ℕ) (o : ℤ) (s : Stretch) (c : Block) : Type 0 where
  pub live : c.alive ≡ true
  pub aligned : 1 < align → IsAligned align o c
  pub filled : HaveValuesFrom s.start s.end c.bytes

-- and for a store
pub record IsStorable (align : ℕ) (o : ℤ) (c : Block) : Type 0 where
  pub live : c.alive ≡ true
  pub aligned : 1 < align → IsAligned align o c
  pub writable : c.writable ≡ true

-- the value read at this place of the block
pub record IsReadAt (access : Access) (o : ℤ) (c : Block) (v : Value) : Type 0 where
  pub start : ℕ
  pub at : o ≡ pos start
  pub read : AreRead access.ty (slice_range c.bytes start (start + access.size)) v
  pub chosen : IsChosenValue access.ty (slice_range c.bytes start (start + access.size)) v

-- ---- writing

-- the word holds the value's number, where it is one
abbrev pub IsWordOf : Value → ℕ → Type 0
IsWordOf (Number v) word = AreCongruent (2 ^ 64) v (pos word)
IsWordOf Null word = Unit {0}
IsWordOf (Pointer block offset) word = Unit {0}
IsWordOf Wild word = Unit {0}

-- the value's bytes are written over these
pub record IsWritten (v : Value) (start size : ℕ) (before after : List Byte) : Type 0 where
  pub word : ℕ
  pub holds : IsWordOf v word
  pub becomes : after ≡ pasted before start (written_bytes v word size)

-- the value is stored at the place of the block
pub record IsStoredIn (access : Access) (o : ℤ) (v : Value) (before after : Block) : Type 0 where
  pub start : ℕ
  pub bytes : List Byte
  pub at : o ≡ pos start
  pub are : AreStored access.size v bytes
  pub becomes : after ≡ overwritten before start bytes

-- the value is stored at the place of the block of this number
pub record IsStoredAt (access : Access) (block : ℕ) (o : ℤ) (v : Value) (before after : List Block) : Type 0 where
  pub whole : Block
  pub new : Block
  pub there : slice_get before block ≡ Some whole
  pub stored : IsStoredIn access o v whole new
  pub becomes : after ≡ slice_set before block new
