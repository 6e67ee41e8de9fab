-- What is asked of a pointer so many bytes from the start of a block, and of numbers.
use Rattle.std.specs.Prelude.{ℕ, ◌-◌, ◌*◌, ◌+◌, ◌^◌, ◌%◌, ◌<◌, ◌≤◌, ◌≡◌, ◌≢◌, ◌⊎◌, ℤ, pos, negsuc, neg_ℤ, ◌+ℤ◌, ◌-ℤ◌, ◌*ℤ◌, ◌≤ℤ◌, ◌<ℤ◌, List, Option, Some, None, true, length, slice_get}
use Rattle.std.specs.Int.RustNames.{unsigned_abs}
use Rattle.po_pred.specs.declared.pred.Over.{Over}
use Rattle.po_pred.specs.declared.pred.Over.TheVariants.{Add, Sub, Mul, Div, Rem, Shl, Neg}
use Rattle.po_memory.specs.declared.block.Block.{Block}
use Rattle.po_memory.specs.declared.value.Byte.{Byte}
use Rattle.po_memory.specs.declared.value.Byte.TheVariants as byte
use Rattle.po_memory.specs.declared.value.Value.{Value}
use Rattle.po_memory.specs.declared.value.Value.TheVariants.{Number, Null, Pointer, Wild}

-- ---- of a block

abbrev pub IsLive : ℤ → Block → Type 0
IsLive o c = c.alive ≡ true

-- a place of the block, or one past its last byte (6.5.6p8)
abbrev pub IsInside : Block → ℤ → Type 0
IsInside c z = (pos 0 ≤ℤ z) × (z ≤ℤ pos (length c.bytes))

abbrev pub Spans : ℤ → ℤ → ℤ → Block → Type 0
Spans lo hi o c = IsInside c (o +ℤ lo) × IsInside c (o +ℤ hi)

-- no byte from the one place up to, not including, the other is without a value (6.2.4p5)
abbrev pub HaveValues : ℤ → ℤ → List Byte → Type 0
HaveValues from to bytes = (i : ℕ) → from ≤ℤ pos i → pos i <ℤ to → slice_get bytes i ≢ Some byte.Blank

abbrev pub IsFilled : ℤ → ℤ → ℤ → Block → Type 0
IsFilled lo hi o c = HaveValues (o +ℤ lo) (o +ℤ hi) c.bytes

abbrev pub IsWritable : ℤ → Block → Type 0
IsWritable o c = c.writable ≡ true

abbrev pub IsMultiple : ℕ → ℤ → Type 0
IsMultiple a o = unsigned_abs o % a ≡ 0

abbrev pub IsAligned : ℕ → ℤ → Block → Type 0
IsAligned a o c = IsMultiple a o × (a ≤ c.align)

-- what free takes (7.20.3.2p2)
abbrev pub StartsHeap : ℤ → Block → Type 0
StartsHeap o c = (o ≡ pos 0) × (c.heap ≡ true) × (c.alive ≡ true)

abbrev pub IsCharacter : Option Byte → Type 0
IsCharacter None = ⊥
IsCharacter (Some byte.Blank) = ⊥
IsCharacter (Some (byte.Number b)) = b ≢ 0
IsCharacter (Some (byte.Part block offset k)) = ⊥

-- a string of so many characters, with its zero byte (7.1.1p1)
abbrev pub HasString : ℕ → ℤ → Block → Type 0
HasString n o c = (at : ℕ) × (o ≡ pos at) × (slice_get c.bytes (at + n) ≡ Some (byte.Number 0)) × ((i : ℕ) → i < n → IsCharacter (slice_get c.bytes (at + i)))

abbrev pub IsTerminated : ℤ → Block → Type 0
IsTerminated o c = (n : ℕ) × HasString n o c

-- ---- of a pointer

abbrev pub OnBlock : (ℤ → Block → Type 0) → ℤ → Option Block → Type 0
OnBlock IsSo o None = ⊥
OnBlock IsSo o (Some c) = IsSo o c

-- of null everything is so, of a wild pointer nothing
abbrev pub OnPointer : (ℤ → Block → Type 0) → List Block → Value → Type 0
OnPointer IsSo blocks (Number v) = ⊥
OnPointer IsSo blocks Null = Unit {0}
OnPointer IsSo blocks (Pointer block offset) = OnBlock IsSo offset (slice_get blocks block)
OnPointer IsSo blocks Wild = ⊥

abbrev pub IsNotNull : Value → Type 0
IsNotNull (Number v) = ⊥
IsNotNull Null = ⊥
IsNotNull (Pointer block offset) = Unit {0}
IsNotNull Wild = Unit {0}

-- ---- of two pointers: of null and any other everything is so

abbrev pub IntoOne : Value → Value → Type 0
IntoOne Null w = Unit {0}
IntoOne v Null = Unit {0}
IntoOne (Pointer block offset) (Pointer other place) = block ≡ other
IntoOne v w = ⊥

-- the blocks differ, or the offsets differ by at least n
abbrev pub StandApart : ℕ → ℤ → ℕ → ℤ → ℤ → Type 0
StandApart block offset other place n = (block ≢ other) ⊎ (((offset +ℤ n) ≤ℤ place) ⊎ ((place +ℤ n) ≤ℤ offset))

-- a wild pointer counts as apart from all
abbrev pub AreApart : ℤ → Value → Value → Type 0
AreApart n (Number v) w = ⊥
AreApart n v (Number w) = ⊥
AreApart n (Pointer block offset) (Pointer other place) = StandApart block offset other place n
AreApart n v w = Unit {0}

-- the string behind the one fits behind the other with its zero byte
abbrev pub Fits : ℤ → Block → ℤ → Block → Type 0
Fits o c r d = (n : ℕ) × HasString n r d × (pos 0 ≤ℤ o) × ((o +ℤ pos (n + 1)) ≤ℤ pos (length c.bytes))

abbrev pub FitsOn : ℤ → Option Block → ℤ → Option Block → Type 0
FitsOn o (Some c) r (Some d) = Fits o c r d
FitsOn o None r d = ⊥
FitsOn o (Some c) r None = ⊥

abbrev pub HasRoom : List Block → Value → Value → Type 0
HasRoom blocks Null w = Unit {0}
HasRoom blocks v Null = Unit {0}
HasRoom blocks (Pointer block offset) (Pointer other place) = FitsOn offset (slice_get blocks block) place (slice_get blocks other)
HasRoom blocks v w = ⊥

-- ---- of numbers

abbrev pub half : ℕ → ℕ
half bits = 2 ^ (bits - 1)

-- a number of the signed type of this width (6.2.6.2)
abbrev pub IsOfWidth : ℕ → ℤ → Type 0
IsOfWidth bits v = (neg_ℤ (pos (half bits)) ≤ℤ v) × (v <ℤ pos (half bits))

-- a left shift of a number that isn't negative (6.5.7p4)
abbrev pub IsShifted : ℕ → ℤ → ℤ → Type 0
IsShifted bits v w = (a : ℕ) × (b : ℕ) × (v ≡ pos a) × (w ≡ pos b) × IsOfWidth bits (pos (a * 2 ^ b))

-- the result doesn't leave the signed type of this width (6.5p5); for `/` and `%` it does only where the least number
-- is divided by -1 (6.5.5p6)
abbrev pub StaysIn : Over → ℕ → ℤ → ℤ → Type 0
StaysIn Add bits v w = IsOfWidth bits (v +ℤ w)
StaysIn Sub bits v w = IsOfWidth bits (v -ℤ w)
StaysIn Mul bits v w = IsOfWidth bits (v *ℤ w)
StaysIn Div bits v w = (v ≡ neg_ℤ (pos (half bits))) × (w ≡ negsuc 0) → ⊥
StaysIn Rem bits v w = (v ≡ neg_ℤ (pos (half bits))) × (w ≡ negsuc 0) → ⊥
StaysIn Shl bits v w = IsShifted bits v w
StaysIn Neg bits v w = IsOfWidth bits (neg_ℤ v)
