-- What is asked of each place of a block. Private clauses alone cite these words.
use Rattle.std.specs.Prelude.{ℕ, ◌+◌, ◌≤◌, ◌<◌, ◌≡◌, ℤ, pos, ◌+ℤ◌, ◌*ℤ◌, ◌≤ℤ◌, ◌<ℤ◌, List, Option, Some, MatchOption, slice_get}
use Rattle.po_memory.specs.declared.block.Block.{Block}
use Rattle.po_memory.specs.declared.value.Byte.{Byte}
use Rattle.po_memory.specs.declared.value.Byte.TheVariants as byte
use Rattle.po_memory.specs.Blocks.{IsLive, IsInside, Spans, IsFilled, IsWritable, IsAligned, StartsHeap, IsTerminated, IsCharacter}
use Rattle.po_holds.specs.declared.asking.Ask.{Ask}
use Rattle.po_holds.specs.declared.asking.Ask.TheVariants.{Live, Writable, Aligned, HeapStart, Terminated, Span, Filled}
use Rattle.po_holds.specs.declared.asking.End.{End}
use Rattle.po_holds.specs.declared.choosing.Numbers.{Numbers}
use Rattle.po_holds.specs.declared.strings.Places.{Places}
use Rattle.po_holds.specs.Choosing.{IsOneOf, AreSome, least, greatest}

-- this is so of so many times a number of the one and of the other, for each of them
abbrev pub EachScaled : ℤ → Numbers → Numbers → (ℤ → ℤ → Type 0) → Type 0
EachScaled k lo hi IsSo = (l h : ℤ) → IsOneOf lo l → IsOneOf hi h → IsSo (k *ℤ l) (k *ℤ h)

abbrev pub Asks : Ask → ℤ → Block → Type 0
Asks Live o c = IsLive o c
Asks Writable o c = IsWritable o c
Asks (Aligned a) o c = IsAligned a o c
Asks HeapStart o c = StartsHeap o c
Asks Terminated o c = IsTerminated o c
Asks (Span k lo hi) o c = EachScaled k lo hi (λ from to. Spans from to o c)
Asks (Filled k lo hi) o c = EachScaled k lo hi (λ from to. IsFilled from to o c)

-- there is a number for it to be asked of
abbrev pub HasSome : Ask → Type 0
HasSome Live = Unit {0}
HasSome Writable = Unit {0}
HasSome (Aligned a) = Unit {0}
HasSome HeapStart = Unit {0}
HasSome Terminated = Unit {0}
HasSome (Span k lo hi) = AreSome lo × AreSome hi
HasSome (Filled k lo hi) = AreSome lo × AreSome hi

-- it is asked of each place
abbrev pub EachAsks : Ask → Numbers → Block → Type 0
EachAsks ask at c = (o : ℤ) → IsOneOf at o → Asks ask o c

-- so many times each number lies in the block from each place on
abbrev pub EachInside : ℤ → Numbers → Numbers → Block → Type 0
EachInside k at r c = (o z : ℤ) → IsOneOf at o → IsOneOf r z → IsInside c (o +ℤ k *ℤ z)

-- so many times this number of r is the least, or the greatest
pub record IsLeast (k : ℤ) (r : Numbers) (end : ℤ) : Type 0 where
  pub one : IsOneOf r (r.base +ℤ end)
  pub least : (z : ℤ) → IsOneOf r z → (k *ℤ (r.base +ℤ end)) ≤ℤ (k *ℤ z)

pub record IsGreatest (k : ℤ) (r : Numbers) (end : ℤ) : Type 0 where
  pub one : IsOneOf r (r.base +ℤ end)
  pub greatest : (z : ℤ) → IsOneOf r z → (k *ℤ z) ≤ℤ (k *ℤ (r.base +ℤ end))

-- the place that an end is
abbrev pub place_of : End → ℤ
place_of e = e.base +ℤ e.moved +ℤ e.factor *ℤ (e.number +ℤ e.added)

-- ---- strings

-- a string from the one place on has its zero byte at the other
pub record EndsAt (bytes : List Byte) (at z : ℕ) : Type 0 where
  pub behind : at ≤ z
  pub zero : slice_get bytes z ≡ Some (byte.Number 0)
  pub characters : (i : ℕ) → at ≤ i → i < z → IsCharacter (slice_get bytes i)

-- where the string from a place on ends
abbrev pub IsEndOf : List Byte → ℕ → Option ℕ → Type 0
IsEndOf bytes at end = MatchOption end ((z : ℕ) → EndsAt bytes at z → ⊥) (EndsAt bytes at)

-- the string from a place on takes so many bytes at most
pub record FitsIn (bytes : List Byte) (room at : ℕ) : Type 0 where
  pub zero : ℕ
  pub ends : EndsAt bytes at zero
  pub short : zero < at + room

-- and so do those from all places from the one to the other
abbrev pub EachFitsIn : List Byte → ℕ → ℕ → ℕ → Type 0
EachFitsIn bytes room first last = (i : ℕ) → first ≤ i → i ≤ last → FitsIn bytes room i

-- the least and the greatest of the numbers, as places before the end
pub record ArePlaces (at : Numbers) (size : ℕ) (s : Places) : Type 0 where
  pub first : least at ≡ pos s.first
  pub last : greatest at ≡ pos s.last
  pub within : s.last < size

-- all numbers are places before the end
abbrev pub AllBefore : Numbers → ℕ → Type 0
AllBefore at size = (pos 0 ≤ℤ least at) × (greatest at <ℤ pos size)
