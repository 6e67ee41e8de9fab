-- Proper states stay proper where two are joined, and where their ends are rounded.
use Rattle.std.specs.Prelude.{◌≡◌, ℕ, min, nat_eq, nat_le, Bool, true, false, cond, ℤ, pos, negsuc, ◌≤ℤ◌, List, [], ◌∷◌, length, Option, Some, None, map}
use Rattle.std.proofs.Common.{refl, sym, ap, ◌∙◌, subst, arith, inl, inr}
use Rattle.std.specs.List.{AllByRecursion, AllZip}
use Rattle.std.specs.Int.{int_min, int_max}
use Rattle.std.proofs.lemmas.Int.{ints, clamps, by_lt_z}
use Rattle.std.specs.declared.cmp.Ordering.{Ordering}
use Rattle.std.specs.declared.cmp.Ordering.TheVariants.{Equal}
use Rattle.po_base.specs.declared.numbers.NodeNo.{NodeNo}
use Rattle.po_arith.specs.declared.int_type.IntType.{IntType}
use Rattle.po_arith.specs.declared.interval.Interval.{Interval}
use Rattle.po_arith.specs.Types.{least, greatest}
use Rattle.po_arith.specs.Hull.{lower, upper, hull}
use Rattle.po_interval.specs.Members.{join_members, JoinIsOfBoth, WithinIsExact, OneOfAll, JoinIsLeast}
use Rattle.po_interval.specs.Rounding.{round, round_down, round_up, low_end, high_end, IsThreshold, IsNearestDown, IsNearestUp, RoundsToNearest, RoundingWidens}
use Rattle.po_bases.specs.declared.entry.Entry.{Entry}
use Rattle.po_bases.specs.declared.bases.Bases.{Bases}
use Rattle.po_bases.specs.declared.bases.Bases.TheVariants.{Known, Unknown}
use Rattle.po_bases.specs.declared.heap_fact.HeapFact.{HeapFact}
use Rattle.po_bases.specs.General.{each_join}
use Rattle.po_bases.specs.Intervals.{LowBelow, HighBelow}
use Rattle.po_bases.specs.Maps.{merged, by_order}
use Rattle.po_bases.specs.Base.{is_null, base_same}
use Rattle.po_bases.specs.Bases.{entry_cmp, join_entries, join_bases}
use Rattle.po_bases.specs.Filled.{heap_cmp, join_heap_entries}
use Rattle.po_astate.specs.Values.{is_bounded, Rel, bounded_rel, join_rel, join_values}
use Rattle.po_astate.specs.States.{join_state}
use Rattle.po_astate.proofs.StatesLaws.{tested_join}
use Rattle.po_astate.specs.Rounding.{round_rel, round_entry, round_bases, round_value, size_from, sizes, round_heap_entry, round_state}
use Rattle.po_astate.proofs.RoundingLaws.{all_changed, state_stays}
use Rattle.po_astate.specs.Proper.{Shape, IsRoundedEnd, IsRounded, nothing_off, IsPlace, ArePlaces, IsRelOf, IsTyped, IsBlock, IsProperState, HasEndsOf, HasEnds}
use Rattle.po_astate.specs.declared.value.AValue.{AValue}
use Rattle.po_astate.specs.declared.state.AState.{AState}
use Rattle.po_astate.specs.declared.state.AState.TheVariants.{Bottom, At}

-- what holds of the entries of two maps holds of those of their merge
module _ {E : Type 0} (order : E → E → Ordering) (join : E → E → E) (P : E → Type 0) (stays : (x y : E) → order x y ≡ Equal → P x → P y → P (join x y)) where
  merged_with_first : (x : E) (xs : List E) → P x → ((ys : List E) → AllByRecursion P ys → AllByRecursion P (merged order join xs ys)) → (ys : List E) →
      AllByRecursion P ys → AllByRecursion P (merged order join (x ∷ xs) ys)
  merged_with_first x xs px rest [] py = (px, rest [] tt)
  merged_with_first x xs px rest (y ∷ ys) py =
      by_order (AllByRecursion P) (order x y) (x ∷ merged order join xs (y ∷ ys)) (join x y ∷ merged order join xs ys) (y ∷ merged order join (x ∷ xs) ys)
      (λ o. (px, rest (y ∷ ys) py)) (λ o. (stays x y o px py.0, rest ys py.1)) (λ o. (py.0, merged_with_first x xs px rest ys py.1))

  merged_all : (xs ys : List E) → AllByRecursion P xs → AllByRecursion P ys → AllByRecursion P (merged order join xs ys)
  merged_all [] ys px py = py
  merged_all (x ∷ xs) ys px py = merged_with_first x xs px.0 (λ zs. merged_all xs zs px.1) ys py

lesser_is : (P : ℤ → Type 0) (x y : ℤ) → P x → P y → P (int_min x y)
lesser_is P x y px py =
    by_lt_z x y (λ less. let e : int_min x y ≡ x = omega (arith, ints, clamps) in subst P (sym e) px)
    (λ more. let e : int_min x y ≡ y = omega (arith, ints, clamps) in subst P (sym e) py)

greater_is : (P : ℤ → Type 0) (x y : ℤ) → P x → P y → P (int_max x y)
greater_is P x y px py =
    by_lt_z x y (λ less. let e : int_max x y ≡ y = omega (arith, ints, clamps) in subst P (sym e) py)
    (λ more. let e : int_max x y ≡ x = omega (arith, ints, clamps) in subst P (sym e) px)

low_kept : (a b c : Option ℤ) → LowBelow a c → LowBelow b c → LowBelow (lower a b) c
low_kept None b c h k = h
low_kept (Some x) None c h k = k
low_kept (Some x) (Some y) c h k = lesser_is (λ v. LowBelow (Some v) c) x y h k

high_kept : (a b c : Option ℤ) → HighBelow a c → HighBelow b c → HighBelow (upper a b) c
high_kept None b c h k = h
high_kept (Some x) None c h k = k
high_kept (Some x) (Some y) c h k = greater_is (λ v. HighBelow (Some v) c) x y h k

same_grain : (g h : ℕ) → g ≡ 16 → h ≡ 16 → min g h ≡ 16
same_grain g h p q = omega arith

module _ (f : Shape) where
  -- ---- joins

  lower_rounded : (a b : Option ℤ) → IsRoundedEnd f a → IsRoundedEnd f b → IsRoundedEnd f (lower a b)
  lower_rounded None b h k = tt
  lower_rounded (Some x) None h k = tt
  lower_rounded (Some x) (Some y) h k = lesser_is (IsThreshold f.thresholds false) x y h k

  upper_rounded : (a b : Option ℤ) → IsRoundedEnd f a → IsRoundedEnd f b → IsRoundedEnd f (upper a b)
  upper_rounded None b h k = tt
  upper_rounded (Some x) None h k = tt
  upper_rounded (Some x) (Some y) h k = greater_is (IsThreshold f.thresholds false) x y h k

  hull_rounded : (a b : Interval) → IsRounded f a → IsRounded f b → IsRounded f (hull a b)
  hull_rounded a b h k = (lower_rounded a.lo b.lo h.0 k.0, upper_rounded a.hi b.hi h.1 k.1)

  place_joined : (e g : Entry) → entry_cmp e g ≡ Equal → IsPlace f e → IsPlace f g → IsPlace f (join_entries e g)
  place_joined e g o pe pg = (
    pe.0,
    (
      hull_rounded e.off g.off pe.1.0 pg.1.0,
      λ null.
          let one = pe.1.1 null in
          let other = pg.1.1 (subst (λ b. is_null b ≡ true) (base_same e.base g.base o) null) in
          (λ i. hull (one.0 i) (other.0 i), same_grain e.grain g.grain one.1 other.1),
    ),
  )

  few_places : (b : Bool) (es : List Entry) → AllByRecursion (IsPlace f) es → ArePlaces f (cond b (Known es) Unknown)
  few_places true es h = h
  few_places false es h = tt

  bases_joined : (a b : Bases) → ArePlaces f a → ArePlaces f b → ArePlaces f (join_bases a b)
  bases_joined (Known es) (Known gs) h k =
      few_places (nat_le (length (merged entry_cmp join_entries es gs)) 4) (merged entry_cmp join_entries es gs)
      (merged_all entry_cmp join_entries (IsPlace f) place_joined es gs h k)
  bases_joined (Known es) Unknown h k = tt
  bases_joined Unknown b h k = tt

  bounded_of : (j : ℕ) (a : Interval) (b : Bool) → IsRelOf f (Some (j, a)) → IsRelOf f (cond b (Some (j, a)) None)
  bounded_of j a true h = h
  bounded_of j a false h = tt

  chosen_of : (b : Bool) (r : Rel) → IsRelOf f r → IsRelOf f (cond b r None)
  chosen_of true r h = h
  chosen_of false r h = tt

  rel_joined : (r s : Rel) → IsRelOf f r → IsRelOf f s → IsRelOf f (join_rel r s)
  rel_joined None s h k = tt
  rel_joined (Some p) None h k = tt
  rel_joined (Some p) (Some q) h k =
      chosen_of (nat_eq p.0 q.0) (bounded_rel p.0 (hull p.1 q.1)) (bounded_of p.0 (hull p.1 q.1) (is_bounded (hull p.1 q.1)) (h.0, hull_rounded p.1 q.1 h.1 k.1))

  block_joined : (e g : NodeNo × HeapFact) → heap_cmp e g ≡ Equal → IsBlock f e → IsBlock f g → IsBlock f (join_heap_entries e g)
  block_joined e g o he hg = (he.0, lesser_size e.1.size g.1.size he.1 hg.1) where
    lesser_size : (m n : ℕ) → IsThreshold f.thresholds false (pos m) → IsThreshold f.thresholds false (pos n) → IsThreshold f.thresholds false (pos (min m n))
    lesser_size m n h k = let e : int_min (pos m) (pos n) ≡ pos (min m n) = omega (arith, ints, clamps) in subst (IsThreshold f.thresholds false) e (lesser_is (IsThreshold f.thresholds false) (pos m) (pos n) h k)

  value_joined : JoinIsOfBoth → (t : Option IntType) (a b : AValue) → IsTyped f t a → IsTyped f t b → IsTyped f t (join_values a b)
  value_joined both None a b h k = (
    λ i. hull (h.0 i) (k.0 i),
    (λ i. join_members (h.1.0 i) (k.1.0 i), (λ i. join_rel (h.1.1.0 i) (k.1.1.0 i), bases_joined a.bases b.bases h.1.1.1 k.1.1.1)),
  )
  value_joined both (Some t) a b h k = (
    λ i. join_bases (h.0 i) (k.0 i),
    (
      hull_rounded a.range b.range h.1.0 k.1.0,
      (
        (
          low_kept a.range.lo b.range.lo (Some (least t)) h.1.1.0.0 k.1.1.0.0,
          high_kept a.range.hi b.range.hi (Some (greatest t)) h.1.1.0.1 k.1.1.0.1,
        ),
        (both.of_type t a.members b.members h.1.1.1.0 k.1.1.1.0, rel_joined a.rel b.rel h.1.1.1.1 k.1.1.1.1),
      ),
    ),
  )

  values_joined : JoinIsOfBoth → (types : List (Option IntType)) (xs ys : List AValue) → AllZip (IsTyped f) types xs → AllZip (IsTyped f) types ys → AllZip (IsTyped f) types (each_join join_values xs ys)
  values_joined both [] [] ys h k = tt
  values_joined both [] (x ∷ xs) ys h k = absurd h
  values_joined both (t ∷ types) [] ys h k = absurd h
  values_joined both (t ∷ types) (x ∷ xs) [] h k = absurd k
  values_joined both (t ∷ types) (x ∷ xs) (y ∷ ys) h k = (value_joined both t x y h.0 k.0, values_joined both types xs ys h.1 k.1)

  pub joined_proper : WithinIsExact → OneOfAll → JoinIsLeast → JoinIsOfBoth → (s u : AState) → IsProperState f s → IsProperState f u → IsProperState f (join_state s u)
  joined_proper exact one law both Bottom u h k = k
  joined_proper exact one law both (At regs slots heap freed wrote) Bottom h k = h
  joined_proper exact one law both (At regs slots heap freed wrote) (At regs2 slots2 heap2 freed2 wrote2) h k = (
    (tested_join exact one law (length f.types) f.slot_count).stays (At regs slots heap freed wrote) (At regs2 slots2 heap2 freed2 wrote2) h.0 k.0,
    (
      values_joined both f.types regs regs2 h.1.0 k.1.0,
      merged_all heap_cmp join_heap_entries (IsBlock f) block_joined heap heap2 h.1.1 k.1.1,
    ),
  )

  -- ---- rounding

  module _ (nearest : RoundsToNearest) (head : Bool) where
    fine : (v : ℤ) → IsThreshold f.thresholds head v → IsThreshold f.thresholds false v
    fine v (inl coarse) = inl coarse
    fine v (inr small) = inr (refl, small.1, small.2)

    down_rounded : (v : ℤ) (end : Option ℤ) → IsNearestDown f.thresholds head v end → IsRoundedEnd f end
    down_rounded v None h = tt
    down_rounded v (Some w) h = fine w h.0

    up_rounded : (v : ℤ) (end : Option ℤ) → IsNearestUp f.thresholds head v end → IsRoundedEnd f end
    up_rounded v None h = tt
    up_rounded v (Some w) h = fine w h.0

    low_rounded : (a : Option ℤ) → IsRoundedEnd f (low_end f.thresholds head a)
    low_rounded None = tt
    low_rounded (Some v) = down_rounded v (round_down f.thresholds head v) (nearest f.thresholds head v).0

    high_rounded : (a : Option ℤ) → IsRoundedEnd f (high_end f.thresholds head a)
    high_rounded None = tt
    high_rounded (Some v) = up_rounded v (round_up f.thresholds head v) (nearest f.thresholds head v).1

    rounded : (a : Interval) → IsRounded f (round a f.thresholds head)
    rounded a = (low_rounded a.lo, high_rounded a.hi)

    -- an end isn't rounded past a threshold
    not_below : (w v : ℤ) (end : Option ℤ) → IsNearestDown f.thresholds head v end → IsThreshold f.thresholds head w → w ≤ℤ v → LowBelow end (Some w)
    not_below w v None h there le = absurd (h w there le)
    not_below w v (Some x) h there le = h.2 w there le

    not_above : (w v : ℤ) (end : Option ℤ) → IsNearestUp f.thresholds head v end → IsThreshold f.thresholds head w → v ≤ℤ w → HighBelow end (Some w)
    not_above w v None h there le = absurd (h w there le)
    not_above w v (Some x) h there le = h.2 w there le

    low_within : (w : ℤ) (a : Option ℤ) → IsThreshold f.thresholds head w → LowBelow a (Some w) → LowBelow (low_end f.thresholds head a) (Some w)
    low_within w None there h = h
    low_within w (Some v) there h = not_below w v (round_down f.thresholds head v) (nearest f.thresholds head v).0 there h

    high_within : (w : ℤ) (a : Option ℤ) → IsThreshold f.thresholds head w → HighBelow a (Some w) → HighBelow (high_end f.thresholds head a) (Some w)
    high_within w None there h = h
    high_within w (Some v) there h = not_above w v (round_up f.thresholds head v) (nearest f.thresholds head v).1 there h

    down_itself : (v : ℤ) (end : Option ℤ) → IsNearestDown f.thresholds head v end → IsThreshold f.thresholds head v → end ≡ Some v
    down_itself v None h there = absurd (h v there (omega (arith, ints)))
    down_itself v (Some w) h there = let at : v ≤ℤ w = h.2 v there (omega (arith, ints)) in let below : w ≤ℤ v = h.1 in ap Some (omega (arith, ints))

    up_itself : (v : ℤ) (end : Option ℤ) → IsNearestUp f.thresholds head v end → IsThreshold f.thresholds head v → end ≡ Some v
    up_itself v None h there = absurd (h v there (omega (arith, ints)))
    up_itself v (Some w) h there = let at : w ≤ℤ v = h.2 v there (omega (arith, ints)) in let above : v ≤ℤ w = h.1 in ap Some (omega (arith, ints))

    nothing_stays : IsThreshold f.thresholds head (pos 0) → round nothing_off f.thresholds head ≡ nothing_off
    nothing_stays there =
        let low = down_itself (pos 0) (round_down f.thresholds head (pos 0)) (nearest f.thresholds head (pos 0)).0 there in
        let high = up_itself (pos 0) (round_up f.thresholds head (pos 0)) (nearest f.thresholds head (pos 0)).1 there in
        λ i. record { lo = low i; hi = high i }

    place_rounded : IsThreshold f.thresholds head (pos 0) → (e : Entry) → IsPlace f e → IsPlace f (round_entry f.thresholds head e)
    place_rounded there e h =
        (h.0, (rounded e.off, λ null. let at = h.1.1 null in (ap (λ a. round a f.thresholds head) at.0 ∙ nothing_stays there, at.1)))

    bases_rounded : IsThreshold f.thresholds head (pos 0) → (b : Bases) → ArePlaces f b → ArePlaces f (round_bases f.thresholds head b)
    bases_rounded there (Known es) h = all_changed (round_entry f.thresholds head) (IsPlace f) (place_rounded there) es h
    bases_rounded there Unknown h = tt

    rel_rounded : (r : Rel) → IsRelOf f r → IsRelOf f (round_rel f.thresholds head r)
    rel_rounded None h = tt
    rel_rounded (Some p) h = bounded_of p.0 (round p.1 f.thresholds head) (is_bounded (round p.1 f.thresholds head)) (h.0, rounded p.1)

    value_rounded : IsThreshold f.thresholds head (pos 0) → (t : Option IntType) → HasEndsOf f t → (a : AValue) → IsTyped f t a → IsTyped f t (round_value f.thresholds head a)
    value_rounded there None ends a h = (
      ap (λ r. round r f.thresholds head) h.0,
      (h.1.0, (ap (round_rel f.thresholds head) h.1.1.0, bases_rounded there a.bases h.1.1.1)),
    )
    value_rounded there (Some t) ends a h = (
      ap (round_bases f.thresholds head) h.0,
      (
        rounded a.range,
        (
          (low_within (least t) a.range.lo (inl ends.0) h.1.1.0.0, high_within (greatest t) a.range.hi (inl ends.1) h.1.1.0.1),
          (h.1.1.1.0, rel_rounded a.rel h.1.1.1.1),
        ),
      ),
    )

    values_rounded : IsThreshold f.thresholds head (pos 0) → (types : List (Option IntType)) → AllByRecursion (HasEndsOf f) types → (xs : List AValue) → AllZip (IsTyped f) types xs → AllZip (IsTyped f) types (map (round_value f.thresholds head) xs)
    values_rounded there [] ends [] h = tt
    values_rounded there [] ends (x ∷ xs) h = absurd h
    values_rounded there (t ∷ types) ends [] h = absurd h
    values_rounded there (t ∷ types) ends (x ∷ xs) h = (value_rounded there t ends.0 x h.0, values_rounded there types ends.1 xs h.1)

    -- the lower end of sizes is a threshold, and so is 0
    size_rounded : (low : Option ℤ) → IsRoundedEnd f low → IsThreshold f.thresholds false (pos (size_from low))
    size_rounded None h = inr (refl, omega (arith, ints), omega (arith, ints))
    size_rounded (Some (pos n)) h = h
    size_rounded (Some (negsuc n)) h = inr (refl, omega (arith, ints), omega (arith, ints))

    block_rounded : (e : NodeNo × HeapFact) → IsBlock f e → IsBlock f (round_heap_entry f.thresholds head e)
    block_rounded e h = (h.0, size_rounded (round (sizes e.1.size) f.thresholds head).lo (low_rounded (Some (pos e.1.size))))

    pub rounded_proper : RoundingWidens → HasEnds f → (s : AState) → IsProperState f s → IsProperState f (round_state s f.thresholds head)
    rounded_proper law ends Bottom h = tt
    rounded_proper law ends (At regs slots heap freed wrote) h = (
      state_stays law f.thresholds head (length f.types) f.slot_count (At regs slots heap freed wrote) h.0,
      (
        values_rounded (inl ends.0) f.types ends.1 regs h.1.0,
        all_changed (round_heap_entry f.thresholds head) (IsBlock f) block_rounded heap h.1.1,
      ),
    )
