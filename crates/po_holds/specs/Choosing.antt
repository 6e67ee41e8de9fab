-- The pointers and the numbers that a place may be, as what it stands on and how far that may be moved. Private clauses alone
-- cite these words.
use Rattle.std.specs.Prelude.{ℤ, pos, ◌≡◌, ◌+ℤ◌, ◌≤ℤ◌, ◌<ℤ◌, Bool, IsTrue, IsFalse, Option, Some, None}
use Rattle.po_pred.specs.declared.pred.Place.{Place}
use Rattle.po_memory.specs.declared.frame.Frame.{Frame}
use Rattle.po_memory.specs.declared.value.Value.{Value}
use Rattle.po_memory.specs.declared.value.Value.TheVariants.{Number}
use Rattle.po_memory.specs.Values.{moved, IsPointer, pointer_base, number_base, HasPointer, HasNumber}
use Rattle.po_holds.specs.declared.choosing.Numbers.{Numbers}
use Rattle.po_holds.specs.declared.choosing.Pointers.{Pointers}

abbrev pub least : Numbers → ℤ
least r = r.base +ℤ r.lo

abbrev pub greatest : Numbers → ℤ
greatest r = r.base +ℤ r.hi

abbrev pub IsOneOf : Numbers → ℤ → Type 0
IsOneOf r z = (least r ≤ℤ z) × (z ≤ℤ greatest r)

abbrev pub AreSome : Numbers → Type 0
AreSome r = r.lo ≤ℤ r.hi

-- this is so of each of the pointers
abbrev pub EachMoved : Pointers → (Value → Type 0) → Type 0
EachMoved r IsSo = (n : ℤ) → r.lo ≤ℤ n → n ≤ℤ r.hi → IsSo (moved r.base n)

-- the numbers of the place
pub record AreNumbers (frame : Frame) (x : Place) (r : Numbers) : Type 0 where
  pub base : number_base frame x.atom ≡ Some (Number r.base)
  pub lo : r.lo ≡ x.lo
  pub hi : r.hi ≡ x.hi
  pub some : AreSome r

-- the pointers of the place
pub record ArePointers (frame : Frame) (p : Place) (r : Pointers) : Type 0 where
  pub base : pointer_base frame p.atom ≡ Some r.base
  pub pointer : IsPointer r.base
  pub lo : r.lo ≡ p.lo
  pub hi : r.hi ≡ p.hi
  pub some : r.lo ≤ℤ r.hi

abbrev pub IsEmpty : Place → Type 0
IsEmpty x = x.hi <ℤ x.lo

-- whatever is asked of each number of the place, this is the answer: it has a value and no number is left to ask, or it has none
pub record SettlesNumber (frame : Frame) (x : Place) (answer : Bool) : Type 0 where
  pub yes : IsTrue answer → HasNumber frame x × IsEmpty x
  pub no : IsFalse answer → HasNumber frame x → ⊥

pub record SettlesPointer (frame : Frame) (p : Place) (answer : Bool) : Type 0 where
  pub yes : IsTrue answer → HasPointer frame p × IsEmpty p
  pub no : IsFalse answer → HasPointer frame p → ⊥

abbrev pub AreSecond : Frame → Option Place → Numbers → Type 0
AreSecond frame None r = (r.base ≡ pos 0) × (r.lo ≡ pos 0) × (r.hi ≡ pos 0)
AreSecond frame (Some x) r = AreNumbers frame x r

abbrev pub SettlesSecond : Frame → Option Place → Bool → Type 0
SettlesSecond frame None answer = ⊥
SettlesSecond frame (Some x) answer = SettlesNumber frame x answer
