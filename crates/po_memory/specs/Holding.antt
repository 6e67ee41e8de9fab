-- When a predicate holds in a frame and a memory: for each choice of its places, and never where a place has no value.
use Rattle.std.specs.Prelude.{pos, ◌≡◌, ◌≢◌, ◌*ℤ◌, ◌≤ℤ◌, List, Some}
use Rattle.po_pred.specs.declared.pred.Pred.{Pred}
use Rattle.po_pred.specs.declared.pred.Pred.TheVariants.{NotNull, Live, Span, Filled, RegSet, Writable, Nonzero, NoOver, IntIn, Aligned, SameBlock, HeapStart, Terminated, Apart, RoomFor, Never}
use Rattle.po_memory.specs.declared.block.Block.{Block}
use Rattle.po_memory.specs.declared.frame.Frame.{Frame}
use Rattle.po_memory.specs.declared.value.Value.{Value}
use Rattle.po_memory.specs.Values.{register_value, EachPointer, EachNumber, EachSecond}
use Rattle.po_memory.specs.Blocks.{IsLive, Spans, IsFilled, IsWritable, IsAligned, StartsHeap, IsTerminated, OnPointer, IsNotNull, IntoOne, AreApart, HasRoom, StaysIn}

abbrev pub Holds : Frame → List Block → Pred → Type 0
Holds f m (NotNull p) = EachPointer f p IsNotNull
Holds f m (Live p) = EachPointer f p (λ v. OnPointer IsLive m v)
Holds f m (Span p k lo hi) = EachPointer f p (λ v. EachNumber f lo (λ l. EachNumber f hi (λ h. OnPointer (Spans (k *ℤ l) (k *ℤ h)) m v)))
Holds f m (Filled p k lo hi) = EachPointer f p (λ v. EachNumber f lo (λ l. EachNumber f hi (λ h. OnPointer (IsFilled (k *ℤ l) (k *ℤ h)) m v)))
Holds f m (RegSet v) = (u : Value) × (register_value f v.0 ≡ Some u)
Holds f m (Writable p) = EachPointer f p (λ v. OnPointer IsWritable m v)
Holds f m (Nonzero x) = EachNumber f x (λ z. z ≢ pos 0)
Holds f m (NoOver op bits a b) = EachNumber f a (λ v. EachSecond f b (λ w. StaysIn op bits v w))
Holds f m (IntIn x lo hi) = EachNumber f x (λ z. (lo ≤ℤ z) × (z ≤ℤ hi))
Holds f m (Aligned p a) = EachPointer f p (λ v. OnPointer (IsAligned a) m v)
Holds f m (SameBlock p q) = EachPointer f p (λ v. EachPointer f q (λ w. IntoOne v w))
Holds f m (HeapStart p) = EachPointer f p (λ v. OnPointer StartsHeap m v)
Holds f m (Terminated p) = EachPointer f p (λ v. OnPointer IsTerminated m v)
Holds f m (Apart p q n) = EachPointer f p (λ v. EachPointer f q (λ w. EachNumber f n (λ z. AreApart z v w)))
Holds f m (RoomFor p q) = EachPointer f p (λ v. EachPointer f q (λ w. HasRoom m v w))
Holds f m (Never why) = ⊥
