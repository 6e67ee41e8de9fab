-- Values, and the values that the places of a predicate may have in a frame.
use Rattle.std.specs.Prelude.{ℕ, ℤ, pos, ◌≡◌, ◌+ℤ◌, ◌≤ℤ◌, Option, Some, None, slice_get}
use Rattle.po_pred.specs.declared.pred.Atom.{Atom}
use Rattle.po_pred.specs.declared.pred.Atom.TheVariants as atom
use Rattle.po_pred.specs.declared.pred.Place.{Place}
use Rattle.po_memory.specs.declared.frame.Frame.{Frame}
use Rattle.po_memory.specs.declared.value.Value.{Value}
use Rattle.po_memory.specs.declared.value.Value.TheVariants.{Number, Null, Pointer, Wild}

-- a value moved by a number: null stays null, and of a wild pointer nothing is known wherever it is moved
abbrev pub moved : Value → ℤ → Value
moved (Number v) n = Number (v +ℤ n)
moved Null n = Null
moved (Pointer block offset) n = Pointer block (offset +ℤ n)
moved Wild n = Wild

abbrev pub IsPointer : Value → Type 0
IsPointer (Number v) = ⊥
IsPointer Null = Unit {0}
IsPointer (Pointer block offset) = Unit {0}
IsPointer Wild = Unit {0}

abbrev pub held : Option (Option Value) → Option Value
held None = None
held (Some v) = v

-- the value of a register, where it has one
abbrev pub register_value : Frame → ℕ → Option Value
register_value frame r = held (slice_get frame.regs r)

abbrev pub atom_value : Frame → Atom → Option Value
atom_value frame (atom.Reg r) = register_value frame r.0
atom_value frame (atom.Param i) = slice_get frame.args i

-- what a pointer's place stands on; a number is the null pointer, since no other stands there
abbrev pub pointer_base : Frame → Option Atom → Option Value
pointer_base frame None = Some Null
pointer_base frame (Some a) = atom_value frame a

-- what a number's place stands on
abbrev pub number_base : Frame → Option Atom → Option Value
number_base frame None = Some (Number (pos 0))
number_base frame (Some a) = atom_value frame a

-- a pointer of the place: what it stands on, moved by one of the place's numbers
abbrev pub ChoosesPointer : Frame → Place → Value → Type 0
ChoosesPointer frame p v = (u : Value) × (n : ℤ) × (pointer_base frame p.atom ≡ Some u) × (p.lo ≤ℤ n) × (n ≤ℤ p.hi) × (v ≡ moved u n)

-- what the place stands on is a pointer
abbrev pub HasPointer : Frame → Place → Type 0
HasPointer frame p = (u : Value) × (pointer_base frame p.atom ≡ Some u) × IsPointer u

-- a number of the place
abbrev pub ChoosesNumber : Frame → Place → ℤ → Type 0
ChoosesNumber frame x z = (u : ℤ) × (number_base frame x.atom ≡ Some (Number u)) × ((u +ℤ x.lo) ≤ℤ z) × (z ≤ℤ (u +ℤ x.hi))

-- what the place stands on is a number
abbrev pub HasNumber : Frame → Place → Type 0
HasNumber frame x = (u : ℤ) × (number_base frame x.atom ≡ Some (Number u))

-- the place has a pointer, and this is so of each that may be chosen
pub record EachPointer (frame : Frame) (p : Place) (IsSo : Value → Type 0) : Type 0 where
  pub has : HasPointer frame p
  pub each : (v : Value) → ChoosesPointer frame p v → IsSo v

pub record EachNumber (frame : Frame) (x : Place) (IsSo : ℤ → Type 0) : Type 0 where
  pub has : HasNumber frame x
  pub each : (z : ℤ) → ChoosesNumber frame x z → IsSo z

-- the same of a second operand, which is 0 where there is none
abbrev pub EachSecond : Frame → Option Place → (ℤ → Type 0) → Type 0
EachSecond frame None IsSo = IsSo (pos 0)
EachSecond frame (Some x) IsSo = EachNumber frame x IsSo
