-- Arguments that are passed to a called function, and a predicate on its parameters.
use Rattle.std.specs.Prelude.{ℤ, pos, ◌≡◌, ◌⊎◌, ◌↔◌, ◌≤ℤ◌, List, Option, Some, None, slice_get}
use Rattle.std.specs.List.{AllZip}
use Rattle.po_base.specs.declared.operand.Opnd.{Opnd}
use Rattle.po_base.specs.declared.operand.Opnd.TheVariants as operand
use Rattle.po_pred.specs.declared.pred.Atom.{Atom}
use Rattle.po_pred.specs.declared.pred.Atom.TheVariants as atom
use Rattle.po_pred.specs.declared.pred.Place.{Place}
use Rattle.po_pred.specs.declared.pred.Pred.{Pred}
use Rattle.po_pred.specs.declared.pred.Pred.TheVariants.{NotNull, Live, Span, Filled, RegSet, Writable, Nonzero, NoOver, IntIn, Aligned, SameBlock, HeapStart, Terminated, Apart, RoomFor, Never}
use Rattle.po_pred.specs.Subst.{put_in}
use Rattle.po_memory.specs.declared.block.Block.{Block}
use Rattle.po_memory.specs.declared.frame.Frame.{Frame}
use Rattle.po_memory.specs.declared.value.Value.{Value}
use Rattle.po_memory.specs.declared.value.Value.TheVariants.{Number, Null}
use Rattle.po_memory.specs.Values.{IsPointer, register_value}
use Rattle.po_memory.specs.Holding.{Holds}

-- an operand has this value; the number 0 is also the null pointer
abbrev pub HasValue : Frame → Opnd → Value → Type 0
HasValue caller (operand.Reg r) v = register_value caller r.0 ≡ Some v
HasValue caller (operand.Num n) v = (v ≡ Number n) ⊎ ((n ≡ pos 0) × (v ≡ Null))

-- the callee was entered with the values of these operands
abbrev pub ArePassed : Frame → List Opnd → Frame → Type 0
ArePassed caller args callee = AllZip (HasValue caller) args callee.args

abbrev pub ParameterIs : (Value → Type 0) → Frame → Option Atom → Type 0
ParameterIs IsSo callee None = Unit {0}
ParameterIs IsSo callee (Some (atom.Reg r)) = ⊥
ParameterIs IsSo callee (Some (atom.Param i)) = (v : Value) × (slice_get callee.args i ≡ Some v) × IsSo v

abbrev pub IsNumber : Value → Type 0
IsNumber v = (u : ℤ) × (v ≡ Number u)

-- a pointer's place that names no register, and whose parameter is a pointer
pub record IsPointerPlace (callee : Frame) (p : Place) : Type 0 where
  pub sorted : p.lo ≤ℤ p.hi
  pub passed : ParameterIs IsPointer callee p.atom

-- a number's place that names no register, and whose parameter is a number
pub record IsNumberPlace (callee : Frame) (x : Place) : Type 0 where
  pub passed : ParameterIs IsNumber callee x.atom

abbrev pub OnSecond : (Place → Type 0) → Option Place → Type 0
OnSecond IsSo None = Unit {0}
OnSecond IsSo (Some x) = IsSo x

-- each pointer's place is so, and each number's place; the predicate names no register
abbrev pub PlacesAre : (Place → Type 0) → (Place → Type 0) → Pred → Type 0
PlacesAre A B (NotNull p) = A p
PlacesAre A B (Live p) = A p
PlacesAre A B (Span p k lo hi) = A p × B lo × B hi
PlacesAre A B (Filled p k lo hi) = A p × B lo × B hi
PlacesAre A B (RegSet v) = ⊥
PlacesAre A B (Writable p) = A p
PlacesAre A B (Nonzero x) = B x
PlacesAre A B (NoOver op bits a b) = B a × OnSecond B b
PlacesAre A B (IntIn x lo hi) = B x
PlacesAre A B (Aligned p a) = A p
PlacesAre A B (SameBlock p q) = A p × A q
PlacesAre A B (HeapStart p) = A p
PlacesAre A B (Terminated p) = A p
PlacesAre A B (Apart p q n) = A p × A q × B n
PlacesAre A B (RoomFor p q) = A p × A q
PlacesAre A B (Never why) = Unit {0}

-- with the arguments put in a predicate holds in the caller's frame exactly where it holds in the callee's
abbrev pub SubstKeepsHolds : Type 0
SubstKeepsHolds = (args : List Opnd) (caller callee : Frame) (m : List Block) (q : Pred) → ArePassed caller args callee → PlacesAre (IsPointerPlace callee) (IsNumberPlace callee) q →
    Holds callee m q ↔ Holds caller m (put_in q args)
