-- Arguments put in the places of parameters.
use Rattle.std.specs.Prelude.{ℕ, ◌<◌, ◌^◌, ℤ, pos, neg_ℤ, ◌+ℤ◌, ◌≤ℤ◌, List, Option, Some, None, slice_get}
use Rattle.std.specs.Option.{option_map}
use Rattle.po_base.specs.declared.operand.Opnd.{Opnd}
use Rattle.po_base.specs.declared.operand.Opnd.TheVariants.{Reg, Num}
use Rattle.po_pred.specs.declared.pred.Atom.{Atom}
use Rattle.po_pred.specs.declared.pred.Atom.TheVariants as atom
use Rattle.po_pred.specs.declared.pred.Place.{Place}
use Rattle.po_pred.specs.declared.pred.Pred.{Pred}
use Rattle.po_pred.specs.declared.pred.Pred.TheVariants.{NotNull, Live, Span, Filled, RegSet, Writable, Nonzero, NoOver, IntIn, Aligned, SameBlock, HeapStart, Terminated, Apart, RoomFor, Never}

-- for a register the offsets stay; a number is added to them
abbrev pub moved_to : Opnd → Place → Place
moved_to (Reg r) p = record { atom = Some (atom.Reg r); lo = p.lo; hi = p.hi }
moved_to (Num n) p = record { atom = None; lo = p.lo +ℤ n; hi = p.hi +ℤ n }

abbrev pub moved_to_found : Option Opnd → Place → Place
moved_to_found None p = p
moved_to_found (Some argument) p = moved_to argument p

-- a parameter's place becomes the argument's, any other stays
abbrev pub put_at : List Opnd → Option Atom → Place → Place
put_at args (Some (atom.Param i)) p = moved_to_found (slice_get args i) p
put_at args (Some (atom.Reg r)) p = p
put_at args None p = p

-- of a place that is a number
abbrev pub put_place : List Opnd → Place → Place
put_place args p = put_at args p.atom p

-- the null pointer
abbrev pub null_place : Place
null_place = record { atom = None; lo = pos 0; hi = pos 0 }

-- a number as a pointer is null, and null stays null wherever it is moved
abbrev pub pointed_to : Opnd → Place → Place
pointed_to (Reg r) p = record { atom = Some (atom.Reg r); lo = p.lo; hi = p.hi }
pointed_to (Num n) p = null_place

abbrev pub pointed_to_found : Option Opnd → Place → Place
pointed_to_found None p = p
pointed_to_found (Some argument) p = pointed_to argument p

abbrev pub put_pointer_at : List Opnd → Option Atom → Place → Place
put_pointer_at args (Some (atom.Param i)) p = pointed_to_found (slice_get args i) p
put_pointer_at args (Some (atom.Reg r)) p = p
put_pointer_at args None p = p

-- of a place that is a pointer
abbrev pub put_pointer : List Opnd → Place → Place
put_pointer args p = put_pointer_at args p.atom p

-- a predicate with other places: the pointers by one function, the numbers by another
abbrev pub with_places : (Place → Place) → (Place → Place) → Pred → Pred
with_places f g (NotNull p) = NotNull (f p)
with_places f g (Live p) = Live (f p)
with_places f g (Span p factor lo hi) = Span (f p) factor (g lo) (g hi)
with_places f g (Filled p factor lo hi) = Filled (f p) factor (g lo) (g hi)
with_places f g (RegSet v) = RegSet v
with_places f g (Writable p) = Writable (f p)
with_places f g (Nonzero x) = Nonzero (g x)
with_places f g (NoOver op bits a b) = NoOver op bits (g a) (option_map g b)
with_places f g (IntIn x lo hi) = IntIn (g x) lo hi
with_places f g (Aligned p a) = Aligned (f p) a
with_places f g (SameBlock p q) = SameBlock (f p) (f q)
with_places f g (HeapStart p) = HeapStart (f p)
with_places f g (Terminated p) = Terminated (f p)
with_places f g (Apart p q n) = Apart (f p) (f q) (g n)
with_places f g (RoomFor p q) = RoomFor (f p) (f q)
with_places f g (Never why) = Never why

-- arguments put in the places of parameters
abbrev pub put_in : Pred → List Opnd → Pred
put_in p args = with_places (put_pointer args) (put_place args) p

-- at most 2^64 in size
abbrev pub IsCounted : ℤ → Type 0
IsCounted v = (neg_ℤ (pos (2 ^ 64)) ≤ℤ v) × (v ≤ℤ pos (2 ^ 64))

abbrev pub IsCountedOperand : Opnd → Type 0
IsCountedOperand (Reg r) = Unit {0}
IsCountedOperand (Num n) = IsCounted n

-- a parameter stands among so many
abbrev pub IsParameterBelow : ℕ → Option Atom → Type 0
IsParameterBelow count (Some (atom.Param i)) = i < count
IsParameterBelow count (Some (atom.Reg r)) = Unit {0}
IsParameterBelow count None = Unit {0}

-- a place into which so many arguments can be put
pub record IsOpenTo (count : ℕ) (p : Place) : Type 0 where
  pub parameter : IsParameterBelow count p.atom
  pub low : IsCounted p.lo
  pub high : IsCounted p.hi
