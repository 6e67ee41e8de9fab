-- A predicate holds over other places in another frame, where the choices of the places are the same.
use Rattle.std.proofs.Common.{◌≡◌, refl}
use Rattle.std.specs.Prelude.{ℤ, List, Option, Some, None}
use Rattle.std.specs.Option.{option_map}
use Rattle.po_pred.specs.declared.pred.Place.{Place}
use Rattle.po_pred.specs.declared.pred.Pred.{Pred}
use Rattle.po_pred.specs.declared.pred.Pred.TheVariants.{NotNull, Live, Span, Filled, RegSet, Writable, Nonzero, NoOver, IntIn, Aligned, SameBlock, HeapStart, Terminated, Apart, RoomFor, Never}
use Rattle.po_pred.specs.Subst.{with_places}
use Rattle.po_memory.specs.declared.block.Block.{Block}
use Rattle.po_memory.specs.declared.frame.Frame.{Frame}
use Rattle.po_memory.specs.declared.value.Value.{Value}
use Rattle.po_memory.specs.Values.{ChoosesPointer, HasPointer, ChoosesNumber, HasNumber, EachPointer, EachNumber, EachSecond}
use Rattle.po_memory.specs.Holding.{Holds}
use Rattle.po_memory.specs.Passing.{OnSecond, PlacesAre}

-- each pointer of the place r in the frame g is one of p in f, and r has one where p has
pub record SamePointer (f : Frame) (p : Place) (g : Frame) (r : Place) : Type 0 where
  pub has : HasPointer f p → HasPointer g r
  pub back : (v : Value) → ChoosesPointer g r v → ChoosesPointer f p v

pub record SameNumber (f : Frame) (x : Place) (g : Frame) (y : Place) : Type 0 where
  pub has : HasNumber f x → HasNumber g y
  pub back : (z : ℤ) → ChoosesNumber g y z → ChoosesNumber f x z

along_pointer : {f g : Frame} {p r : Place} {P Q : Value → Type 0} → SamePointer f p g r → ((v : Value) → P v → Q v) → EachPointer f p P → EachPointer g r Q
along_pointer same turn h = record { has = same.has h.has; each = λ v c. turn v (h.each v (same.back v c)) }

along_number : {f g : Frame} {x y : Place} {P Q : ℤ → Type 0} → SameNumber f x g y → ((z : ℤ) → P z → Q z) → EachNumber f x P → EachNumber g y Q
along_number same turn h = record { has = same.has h.has; each = λ z c. turn z (h.each z (same.back z c)) }

along_second : (f g : Frame) (c d : Place → Place) (b : Option Place) (P : ℤ → Type 0) → OnSecond (λ x. SameNumber f (c x) g (d x)) b → EachSecond f (option_map c b) P → EachSecond g (option_map d b) P
along_second f g c d None P same h = h
along_second f g c d (Some x) P same h = along_number same (λ z k. k) h

module _ (f g : Frame) (m : List Block) (a b c d : Place → Place) where
  pub holds_along : (q : Pred) → PlacesAre (λ p. SamePointer f (a p) g (b p)) (λ x. SameNumber f (c x) g (d x)) q → Holds f m (with_places a c q) → Holds g m (with_places b d q)
  holds_along (NotNull p) s h = along_pointer s (λ v k. k) h
  holds_along (Live p) s h = along_pointer s (λ v k. k) h
  holds_along (Span p k lo hi) s h = along_pointer s.0 (λ v i. along_number s.1 (λ l j. along_number s.2 (λ u n. n) j) i) h
  holds_along (Filled p k lo hi) s h = along_pointer s.0 (λ v i. along_number s.1 (λ l j. along_number s.2 (λ u n. n) j) i) h
  holds_along (RegSet v) s h = absurd s
  holds_along (Writable p) s h = along_pointer s (λ v k. k) h
  holds_along (Nonzero x) s h = along_number s (λ v k. k) h
  holds_along (NoOver op bits x y) s h = along_number s.0 (λ v i. along_second f g c d y _ s.1 i) h
  holds_along (IntIn x lo hi) s h = along_number s (λ v k. k) h
  holds_along (Aligned p n) s h = along_pointer s (λ v k. k) h
  holds_along (SameBlock p q) s h = along_pointer s.0 (λ v i. along_pointer s.1 (λ w k. k) i) h
  holds_along (HeapStart p) s h = along_pointer s (λ v k. k) h
  holds_along (Terminated p) s h = along_pointer s (λ v k. k) h
  holds_along (Apart p q n) s h = along_pointer s.0 (λ v i. along_pointer s.1 (λ w j. along_number s.2 (λ z k. k) j) i) h
  holds_along (RoomFor p q) s h = along_pointer s.0 (λ v i. along_pointer s.1 (λ w k. k) i) h
  holds_along (Never why) s h = h

-- a predicate over its own places
pub own_places : (q : Pred) → with_places (λ p. p) (λ x. x) q ≡ q
own_places (NotNull p) = refl
own_places (Live p) = refl
own_places (Span p k lo hi) = refl
own_places (Filled p k lo hi) = refl
own_places (RegSet v) = refl
own_places (Writable p) = refl
own_places (Nonzero x) = refl
own_places (NoOver op bits a None) = refl
own_places (NoOver op bits a (Some b)) = refl
own_places (IntIn x lo hi) = refl
own_places (Aligned p a) = refl
own_places (SameBlock p q) = refl
own_places (HeapStart p) = refl
own_places (Terminated p) = refl
own_places (Apart p q n) = refl
own_places (RoomFor p q) = refl
own_places (Never why) = refl

-- what is so of places is so of those of a predicate
module _ (A B C D : Place → Type 0) (turn : (p : Place) → A p → C p) (over : (x : Place) → B x → D x) where
  second_turned : (b : Option Place) → OnSecond B b → OnSecond D b
  second_turned None h = tt
  second_turned (Some x) h = over x h

  pub places_turned : (q : Pred) → PlacesAre A B q → PlacesAre C D q
  places_turned (NotNull p) h = turn p h
  places_turned (Live p) h = turn p h
  places_turned (Span p k lo hi) h = (turn p h.0, over lo h.1, over hi h.2)
  places_turned (Filled p k lo hi) h = (turn p h.0, over lo h.1, over hi h.2)
  places_turned (RegSet v) h = h
  places_turned (Writable p) h = turn p h
  places_turned (Nonzero x) h = over x h
  places_turned (NoOver op bits a b) h = (over a h.0, second_turned b h.1)
  places_turned (IntIn x lo hi) h = over x h
  places_turned (Aligned p a) h = turn p h
  places_turned (SameBlock p q) h = (turn p h.0, turn q h.1)
  places_turned (HeapStart p) h = turn p h
  places_turned (Terminated p) h = turn p h
  places_turned (Apart p q n) h = (turn p h.0, turn q h.1, over n h.2)
  places_turned (RoomFor p q) h = (turn p h.0, turn q h.1)
  places_turned (Never why) h = h
