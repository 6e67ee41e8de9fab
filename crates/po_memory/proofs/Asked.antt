-- What a load and a store ask is that all their predicates hold.
use Rattle.std.proofs.Common.{◌≡◌, ℕ, List, [], ◌∷◌, ◌++◌, arith, sym, ap, refl, subst, ◌∙◌}
use Rattle.std.specs.Prelude.{ℤ, pos, ◌+ℤ◌, ◌*ℤ◌, All, Bool, true, false, cond, ltb}
use Rattle.std.proofs.lemmas.Int.{ints}
use Rattle.std.proofs.lemmas.Bool.{ltb-true, lt-ltb}
use Rattle.std.proofs.lemmas.List.Elements.{All-nil, All-cons, All-head, All-tail}
use Rattle.std.proofs.lemmas.Option.{same_Some}
use Rattle.po_lists.proofs.Integers.{once}
use Rattle.po_memory.proofs.General.{one_number}
use Rattle.po_pred.specs.declared.pred.Place.{Place}
use Rattle.po_pred.specs.declared.pred.Pred.{Pred}
use Rattle.po_pred.specs.declared.pred.Pred.TheVariants.{NotNull, Live, Span, Filled, Writable, Aligned}
use Rattle.po_ir.specs.declared.instr.Access.{Access}
use Rattle.po_memory.specs.declared.block.Block.{Block}
use Rattle.po_memory.specs.declared.frame.Frame.{Frame}
use Rattle.po_memory.specs.declared.value.Value.{Value}
use Rattle.po_memory.specs.declared.value.Value.TheVariants.{Number, Null, Pointer, Wild}
use Rattle.po_memory.specs.Values.{moved, IsPointer, EachPointer, EachNumber}
use Rattle.po_memory.specs.Blocks.{IsLive, Spans, IsAligned, IsFilled, IsWritable, OnPointer, IsNotNull}
use Rattle.po_memory.specs.Holding.{Holds}
use Rattle.po_memory.specs.Accesses.{LoadAllowed, StoreAllowed, LoadAsks, StoreAsks, Means, number_place, alignment_asked}

unmoved : (v : Value) (n : ℤ) → n ≡ pos 0 → moved v n ≡ v
unmoved (Number v) n none = let same : v +ℤ n ≡ v = omega (arith, ints) in ap Number same
unmoved Null n none = refl
unmoved (Pointer block offset) n none = let same : offset +ℤ n ≡ offset = omega (arith, ints) in ap (Pointer block) same
unmoved Wild n none = refl

module _ (f : Frame) (p : Place) (at : Value) (means : Means f p at) where
  -- the place's one pointer
  of_place : (IsSo : Value → Type 0) → EachPointer f p IsSo → IsSo at
  of_place IsSo h =
      let low = means.low in
      let high = means.high in
      h.each at (at, pos 0, means.base, omega (arith, ints), omega (arith, ints), sym (unmoved at (pos 0) refl))

  to_place : (IsSo : Value → Type 0) → IsPointer at → IsSo at → EachPointer f p IsSo
  to_place IsSo pointer h = record {
    has = (at, means.base, pointer);
    each = λ v c.
        let low = means.low in
        let high = means.high in
        let above = c.3 in
        let below = c.4 in
        let none : c.1 ≡ pos 0 = omega (arith, ints) in
        let base : c.0 ≡ at = same_Some c.0 at (sym c.2 ∙ means.base) in
        subst IsSo (sym (c.5 ∙ (unmoved c.0 c.1 none ∙ base))) h;
  }

  place_pointer : (IsSo : Value → Type 0) → EachPointer f p IsSo → IsPointer at
  place_pointer IsSo h = subst IsPointer (same_Some h.has.0 at (sym h.has.1 ∙ means.base)) h.has.2

of_number : (f : Frame) (n : ℕ) (IsSo : ℤ → Type 0) → EachNumber f (number_place n) IsSo → IsSo (pos n)
of_number f n IsSo h = h.each (pos n) (pos 0, refl, omega (arith, ints), omega (arith, ints))

to_number : (f : Frame) (n : ℕ) (IsSo : ℤ → Type 0) → IsSo (pos n) → EachNumber f (number_place n) IsSo
to_number f n IsSo h = record {
  has = (pos 0, refl);
  each = λ z c.
      let none : pos 0 ≡ c.0 = one_number (pos 0) c.0 c.1 in
      let low = c.2 in
      let high = c.3 in
      let same : pos n ≡ z = omega (arith, ints) in
      subst IsSo same h;
}

module _ (IsSo : ℤ → ℤ → Value → Type 0) (f : Frame) (n : ℕ) (v : Value) where
  between_ends : IsSo (pos 0) (pos n) v → EachNumber f (number_place 0) (λ l. EachNumber f (number_place n) (λ h. IsSo (pos 1 *ℤ l) (pos 1 *ℤ h) v))
  between_ends h =
      to_number f 0 (λ l. EachNumber f (number_place n) (λ h. IsSo (pos 1 *ℤ l) (pos 1 *ℤ h) v))
      (to_number f n (λ h. IsSo (pos 1 *ℤ pos 0) (pos 1 *ℤ h) v) (subst (λ l. IsSo l (pos 1 *ℤ pos n) v) (sym (once (pos 0))) (subst (λ h. IsSo (pos 0) h v) (sym (once (pos n))) h)))

  ends_between : EachNumber f (number_place 0) (λ l. EachNumber f (number_place n) (λ h. IsSo (pos 1 *ℤ l) (pos 1 *ℤ h) v)) → IsSo (pos 0) (pos n) v
  ends_between k =
      subst (λ h. IsSo (pos 0) h v) (once (pos n))
      (subst (λ l. IsSo l (pos 1 *ℤ pos n) v) (once (pos 0))
      (of_number f n (λ h. IsSo (pos 1 *ℤ pos 0) (pos 1 *ℤ h) v) (of_number f 0 (λ l. EachNumber f (number_place n) (λ h. IsSo (pos 1 *ℤ l) (pos 1 *ℤ h) v)) k)))

pointer_there : (IsSo : ℤ → Block → Type 0) (blocks : List Block) (v : Value) → IsNotNull v → OnPointer IsSo blocks v → IsPointer v
pointer_there IsSo blocks (Number v) some h = absurd h
pointer_there IsSo blocks Null some h = tt
pointer_there IsSo blocks (Pointer block offset) some h = tt
pointer_there IsSo blocks Wild some h = tt

-- the list with or without the alignment
module _ (P : Pred → Type 0) (p : Place) (a : ℕ) (last : Pred) where
  asked_from : (b : Bool) → (b ≡ true → P (Aligned p a)) → P last → All P (cond b (Aligned p a ∷ []) [] ++ last ∷ [])
  asked_from true aligned h = All-cons P (Aligned p a) (last ∷ []) (aligned refl) (All-cons P last [] h (All-nil P))
  asked_from false aligned h = All-cons P last [] h (All-nil P)

  asked_to : (b : Bool) → All P (cond b (Aligned p a ∷ []) [] ++ last ∷ []) → (b ≡ true → P (Aligned p a)) × P last
  asked_to true h = (λ e. All-head P (Aligned p a) (last ∷ []) h, All-head P last [] (All-tail P (Aligned p a) (last ∷ []) h))
  asked_to false h = (λ e. absurd (cc), All-head P last [] h)

module _ (f : Frame) (blocks : List Block) (p : Place) (at : Value) (access : Access) (means : Means f p at) where
  abbrev H : Pred → Type 0
  H q = Holds f blocks q

  abbrev on : (ℤ → Block → Type 0) → Value → Type 0
  on IsSo v = OnPointer IsSo blocks v

  span_to : on (Spans (pos 0) (pos access.size)) at → IsPointer at → H (Span p (pos 1) (number_place 0) (number_place access.size))
  span_to h pointer = to_place f p at means _ pointer (between_ends (λ l k v. on (Spans l k) v) f access.size at h)

  span_from : H (Span p (pos 1) (number_place 0) (number_place access.size)) → on (Spans (pos 0) (pos access.size)) at
  span_from h = ends_between (λ l k v. on (Spans l k) v) f access.size at (of_place f p at means _ h)

  filled_to : on (IsFilled (pos 0) (pos access.size)) at → IsPointer at → H (Filled p (pos 1) (number_place 0) (number_place access.size))
  filled_to h pointer = to_place f p at means _ pointer (between_ends (λ l k v. on (IsFilled l k) v) f access.size at h)

  filled_from : H (Filled p (pos 1) (number_place 0) (number_place access.size)) → on (IsFilled (pos 0) (pos access.size)) at
  filled_from h = ends_between (λ l k v. on (IsFilled l k) v) f access.size at (of_place f p at means _ h)

  load_to : LoadAllowed access blocks at → All H (NotNull p ∷ (Live p ∷ (Span p (pos 1) (number_place 0) (number_place access.size) ∷ (alignment_asked p access.align ++ Filled p (pos 1) (number_place 0) (number_place access.size) ∷ []))))
  load_to h =
      let pointer = pointer_there IsLive blocks at h.not_null h.live in
      All-cons H (NotNull p) (Live p ∷ (Span p (pos 1) (number_place 0) (number_place access.size) ∷ (alignment_asked p access.align ++ Filled p (pos 1) (number_place 0) (number_place access.size) ∷ []))) (to_place f p at means IsNotNull pointer h.not_null)
      (All-cons H (Live p) (Span p (pos 1) (number_place 0) (number_place access.size) ∷ (alignment_asked p access.align ++ Filled p (pos 1) (number_place 0) (number_place access.size) ∷ [])) (to_place f p at means (on IsLive) pointer h.live)
      (All-cons H (Span p (pos 1) (number_place 0) (number_place access.size)) (alignment_asked p access.align ++ Filled p (pos 1) (number_place 0) (number_place access.size) ∷ []) (span_to h.span pointer)
      (asked_from H p access.align (Filled p (pos 1) (number_place 0) (number_place access.size)) (ltb 1 access.align) (λ above. to_place f p at means (on (IsAligned access.align)) pointer (h.aligned (ltb-true 1 access.align above))) (filled_to h.filled pointer))))

  load_from : All H (NotNull p ∷ (Live p ∷ (Span p (pos 1) (number_place 0) (number_place access.size) ∷ (alignment_asked p access.align ++ Filled p (pos 1) (number_place 0) (number_place access.size) ∷ [])))) → LoadAllowed access blocks at
  load_from h =
      let one = All-tail H (NotNull p) (Live p ∷ (Span p (pos 1) (number_place 0) (number_place access.size) ∷ (alignment_asked p access.align ++ Filled p (pos 1) (number_place 0) (number_place access.size) ∷ []))) h in
      let two = All-tail H (Live p) (Span p (pos 1) (number_place 0) (number_place access.size) ∷ (alignment_asked p access.align ++ Filled p (pos 1) (number_place 0) (number_place access.size) ∷ [])) one in
      let three = All-tail H (Span p (pos 1) (number_place 0) (number_place access.size)) (alignment_asked p access.align ++ Filled p (pos 1) (number_place 0) (number_place access.size) ∷ []) two in
      let rest = asked_to H p access.align (Filled p (pos 1) (number_place 0) (number_place access.size)) (ltb 1 access.align) three in
      record {
        not_null = of_place f p at means IsNotNull (All-head H (NotNull p) (Live p ∷ (Span p (pos 1) (number_place 0) (number_place access.size) ∷ (alignment_asked p access.align ++ Filled p (pos 1) (number_place 0) (number_place access.size) ∷ []))) h);
        live = of_place f p at means (on IsLive) (All-head H (Live p) (Span p (pos 1) (number_place 0) (number_place access.size) ∷ (alignment_asked p access.align ++ Filled p (pos 1) (number_place 0) (number_place access.size) ∷ [])) one);
        span = span_from (All-head H (Span p (pos 1) (number_place 0) (number_place access.size)) (alignment_asked p access.align ++ Filled p (pos 1) (number_place 0) (number_place access.size) ∷ []) two);
        aligned = λ above. of_place f p at means (on (IsAligned access.align)) (rest.0 (lt-ltb 1 access.align above));
        filled = filled_from rest.1;
      }

  store_to : StoreAllowed access blocks at → All H (NotNull p ∷ (Live p ∷ (Span p (pos 1) (number_place 0) (number_place access.size) ∷ (alignment_asked p access.align ++ Writable p ∷ []))))
  store_to h =
      let pointer = pointer_there IsLive blocks at h.not_null h.live in
      All-cons H (NotNull p) (Live p ∷ (Span p (pos 1) (number_place 0) (number_place access.size) ∷ (alignment_asked p access.align ++ Writable p ∷ []))) (to_place f p at means IsNotNull pointer h.not_null)
      (All-cons H (Live p) (Span p (pos 1) (number_place 0) (number_place access.size) ∷ (alignment_asked p access.align ++ Writable p ∷ [])) (to_place f p at means (on IsLive) pointer h.live)
      (All-cons H (Span p (pos 1) (number_place 0) (number_place access.size)) (alignment_asked p access.align ++ Writable p ∷ []) (span_to h.span pointer)
      (asked_from H p access.align (Writable p) (ltb 1 access.align) (λ above. to_place f p at means (on (IsAligned access.align)) pointer (h.aligned (ltb-true 1 access.align above))) (to_place f p at means (on IsWritable) pointer h.writable))))

  store_from : All H (NotNull p ∷ (Live p ∷ (Span p (pos 1) (number_place 0) (number_place access.size) ∷ (alignment_asked p access.align ++ Writable p ∷ [])))) → StoreAllowed access blocks at
  store_from h =
      let one = All-tail H (NotNull p) (Live p ∷ (Span p (pos 1) (number_place 0) (number_place access.size) ∷ (alignment_asked p access.align ++ Writable p ∷ []))) h in
      let two = All-tail H (Live p) (Span p (pos 1) (number_place 0) (number_place access.size) ∷ (alignment_asked p access.align ++ Writable p ∷ [])) one in
      let three = All-tail H (Span p (pos 1) (number_place 0) (number_place access.size)) (alignment_asked p access.align ++ Writable p ∷ []) two in
      let rest = asked_to H p access.align (Writable p) (ltb 1 access.align) three in
      record {
        not_null = of_place f p at means IsNotNull (All-head H (NotNull p) (Live p ∷ (Span p (pos 1) (number_place 0) (number_place access.size) ∷ (alignment_asked p access.align ++ Writable p ∷ []))) h);
        live = of_place f p at means (on IsLive) (All-head H (Live p) (Span p (pos 1) (number_place 0) (number_place access.size) ∷ (alignment_asked p access.align ++ Writable p ∷ [])) one);
        span = span_from (All-head H (Span p (pos 1) (number_place 0) (number_place access.size)) (alignment_asked p access.align ++ Writable p ∷ []) two);
        aligned = λ above. of_place f p at means (on (IsAligned access.align)) (rest.0 (lt-ltb 1 access.align above));
        writable = of_place f p at means (on IsWritable) rest.1;
      }

pub load_asks : LoadAsks
load_asks f blocks p at access means = (load_from f blocks p at access means, load_to f blocks p at access means)

pub store_asks : StoreAsks
store_asks f blocks p at access means = (store_from f blocks p at access means, store_to f blocks p at access means)
