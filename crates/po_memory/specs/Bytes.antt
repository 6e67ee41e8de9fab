-- How values stand in bytes, the lowest byte first: what bytes are as a value, and which bytes a value is stored as.
use Rattle.std.specs.Prelude.{ℕ, ◌+◌, ◌*◌, ◌^◌, ◌<◌, ◌≤◌, ◌≡◌, ◌≢◌, ℤ, pos, List, [], ◌∷◌, map, length, replicate, All}
use Rattle.std.specs.List.{range_with_len}
use Rattle.po_arith.specs.declared.int_type.IntType.{IntType}
use Rattle.po_arith.specs.declared.target.Target.{Target}
use Rattle.po_arith.specs.Types.{IsIntType, IsOfType, AreCongruent}
use Rattle.po_ir.specs.declared.instr.Ty.{Ty}
use Rattle.po_ir.specs.declared.instr.Ty.TheVariants.{Int, Ptr}
use Rattle.po_ir.specs.declared.instr.Access.{Access}
use Rattle.po_ir.specs.Whole.{AccessFits}
use Rattle.po_memory.specs.declared.value.Byte.{Byte}
use Rattle.po_memory.specs.declared.value.Byte.TheVariants as byte
use Rattle.po_memory.specs.declared.value.Value.{Value}
use Rattle.po_memory.specs.declared.value.Value.TheVariants.{Number, Null, Pointer, Wild}

-- ---- bytes

-- the bytes are these numbers
pub record AreNumbers (numbers : List ℕ) (bytes : List Byte) : Type 0 where
  pub same : bytes ≡ map byte.Number numbers
  pub small : All (λ n. n < 256) numbers

-- the number of these bytes, the lowest first
unfoldable pub joined : List ℕ → ℕ
joined [] = 0
joined (n ∷ rest) = n + 256 * joined rest

-- the bytes are numbers, those of v in two's complement (6.2.6.2p2)
abbrev pub Represents : ℤ → List Byte → Type 0
Represents v bytes = (numbers : List ℕ) × AreNumbers numbers bytes × AreCongruent (2 ^ (8 * length bytes)) v (pos (joined numbers))

abbrev pub zeros : ℕ → List Byte
zeros size = replicate size (byte.Number 0)

-- the bytes of a pointer, its parts in their order
abbrev pub parts : ℕ → ℕ → ℤ → List Byte
parts size block offset = map (λ k. byte.Part block offset k) (range_with_len 0 size)

-- ---- a load

-- a number of the type, and the one of the bytes where that is one of the type: where a byte is no number, or the number of the
-- bytes isn't one of the type, any
pub record IsRead (t : IntType) (bytes : List Byte) (v : ℤ) : Type 0 where
  pub of_type : IsOfType t v
  pub exact : (w : ℤ) → IsOfType t w → Represents w bytes → v ≡ w

-- the parts of one pointer are that pointer, zeros are null (6.3.2.3p3), and all other bytes are a wild pointer
abbrev pub IsPointerRead : List Byte → Value → Type 0
IsPointerRead bytes (Number v) = ⊥
IsPointerRead bytes Null = bytes ≡ zeros (length bytes)
IsPointerRead bytes (Pointer block offset) = bytes ≡ parts (length bytes) block offset
IsPointerRead bytes Wild = (bytes ≢ zeros (length bytes)) × ((block : ℕ) (offset : ℤ) → bytes ≢ parts (length bytes) block offset)

abbrev pub IsNumberRead : IntType → List Byte → Value → Type 0
IsNumberRead t bytes (Number v) = IsRead t bytes v
IsNumberRead t bytes Null = ⊥
IsNumberRead t bytes (Pointer block offset) = ⊥
IsNumberRead t bytes Wild = ⊥

-- what these bytes may be as a value of the type
abbrev pub AreRead : Ty → List Byte → Value → Type 0
AreRead (Int t) bytes v = IsNumberRead t bytes v
AreRead Ptr bytes v = IsPointerRead bytes v

-- ---- a store

-- a wild pointer may be any numbers that aren't all zero
pub record AreWild (bytes : List Byte) : Type 0 where
  pub numbers : List ℕ
  pub are : AreNumbers numbers bytes
  pub not_null : bytes ≢ zeros (length bytes)

-- what so many bytes may be in which the value is stored
abbrev pub AreStored : ℕ → Value → List Byte → Type 0
AreStored size (Number v) bytes = (length bytes ≡ size) × Represents v bytes
AreStored size Null bytes = bytes ≡ zeros size
AreStored size (Pointer block offset) bytes = bytes ≡ parts size block offset
AreStored size Wild bytes = (length bytes ≡ size) × AreWild bytes

-- ---- a copy

-- what becomes of a byte onto which another is copied: one without a value makes one with a value any number
abbrev pub IsCopied : Byte → Byte → Byte → Type 0
IsCopied byte.Blank byte.Blank after = after ≡ byte.Blank
IsCopied byte.Blank (byte.Number old) after = (n : ℕ) × (n < 256) × (after ≡ byte.Number n)
IsCopied byte.Blank (byte.Part block offset k) after = (n : ℕ) × (n < 256) × (after ≡ byte.Number n)
IsCopied (byte.Number n) old after = after ≡ byte.Number n
IsCopied (byte.Part block offset k) old after = after ≡ byte.Part block offset k

-- each of the first bytes is copied onto that of the second
abbrev pub AreCopied : List Byte → List Byte → List Byte → Type 0
AreCopied [] [] [] = Unit {0}
AreCopied (from ∷ froms) (old ∷ olds) (after ∷ afters) = IsCopied from old after × AreCopied froms olds afters
AreCopied _ _ _ = ⊥

-- ---- values and accesses that there are

-- a value of the type: a number of an integer type, or any pointer
abbrev pub LiesIn : Ty → Value → Type 0
LiesIn (Int t) (Number v) = IsOfType t v
LiesIn Ptr Null = Unit {0}
LiesIn Ptr (Pointer block offset) = Unit {0}
LiesIn Ptr Wild = Unit {0}
LiesIn _ _ = ⊥

abbrev pub IsTypeOfTarget : Ty → Type 0
IsTypeOfTarget (Int t) = IsIntType t
IsTypeOfTarget Ptr = Unit {0}

-- an access of a type of some target, in the size of that type
pub record IsAccess (access : Access) : Type 0 where
  pub typed : IsTypeOfTarget access.ty
  pub fits : (target : Target) × AccessFits target access

-- a number's bytes hold its width
abbrev pub HasSize : Ty → ℕ → Type 0
HasSize (Int t) size = t.bits ≤ 8 * size
HasSize Ptr size = Unit {0}
