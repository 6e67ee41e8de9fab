-- What the machine's 128 bits hold.
use Rattle.std.proofs.Common.{◌≡◌, ◌≤◌, ◌-◌, ◌^◌, ℕ, Bool, true, false, cond, arith, sym, refl, ap, ◌∙◌, inl, inr, min}
use Rattle.std.specs.Prelude.{ℤ, pos, negsuc, neg_ℤ, ◌≤ℤ◌, ◌<ℤ◌, ◌⊎◌, Some, None, int_le}
use Rattle.std.specs.Int.{int_min, int_max, saturate_signed, w128}
use Rattle.std.proofs.lemmas.Int.{ints, clamps, by_lt_z}
use Rattle.std.proofs.lemmas.Bool.{and_left, and_right, cond-false, cases_lt}
use Rattle.po_arith.specs.declared.int_type.IntType.{IntType}
use Rattle.po_arith.specs.declared.interval.Interval.{Interval}
use Rattle.po_arith.specs.declared.range.Range.{Range}
use Rattle.po_arith.specs.Types.{IsIntType, least, greatest}
use Rattle.po_arith.proofs.Sizes.{small}
use Rattle.po_arith.specs.Ranges.{range, some_range, corners}
use Rattle.po_interval.specs.Ranges.{interval, as_interval, whole, part, conv_interval, AreAlike, EndsAlike}
use Rattle.po_interval.specs.Within.{interval_within}

far_up : (n : ℕ) → 2 ^ 64 ≤ n → pos (2 ^ 64) ≤ℤ pos n
far_up n far = omega (arith, ints)

far_down : (n : ℕ) → 2 ^ 64 ≤ n → negsuc n ≤ℤ neg_ℤ (pos (2 ^ 64))
far_down n far = omega (arith, ints)

-- a product that 128 bits don't hold is beyond every type
pub saturated : (x z : ℤ) → x ≡ saturate_signed w128 z → AreAlike x z
saturated x (pos n) is = elim (cases_lt n (2 ^ 127)) [
  | inl less ↦ let same : min n (2 ^ 127 - 1) ≡ n = omega arith in inl (is ∙ ap pos same)
  | inr more ↦ let far : 2 ^ 64 ≤ min n (2 ^ 127 - 1) = omega arith in inr (inl (rw is (far_up (min n (2 ^ 127 - 1)) far), far_up n (omega arith)))
]
saturated x (negsuc n) is = elim (cases_lt n (2 ^ 127)) [
  | inl less ↦ let same : min n (2 ^ 127 - 1) ≡ n = omega arith in inl (is ∙ ap negsuc same)
  | inr more ↦ let far : 2 ^ 64 ≤ min n (2 ^ 127 - 1) = omega arith in inr (inr (rw is (far_down (min n (2 ^ 127 - 1)) far), far_down n (omega arith)))
]

least_alike : (v w x y : ℤ) → AreAlike v w → AreAlike x y → AreAlike (int_min v x) (int_min w y)
least_alike v w x y (inl one) (inl other) = inl (rw (one, other) refl)
least_alike v w x y (inl one) (inr (inl far)) = by_lt_z v (pos (2 ^ 64)) (λ less. inl (omega (arith, ints, clamps))) (λ more. inr (inl (omega (arith, ints, clamps), omega (arith, ints, clamps))))
least_alike v w x y (inl one) (inr (inr far)) = inr (inr (omega (arith, ints, clamps), omega (arith, ints, clamps)))
least_alike v w x y (inr (inl far)) (inl other) = by_lt_z x (pos (2 ^ 64)) (λ less. inl (omega (arith, ints, clamps))) (λ more. inr (inl (omega (arith, ints, clamps), omega (arith, ints, clamps))))
least_alike v w x y (inr (inl far)) (inr (inl also)) = inr (inl (omega (arith, ints, clamps), omega (arith, ints, clamps)))
least_alike v w x y (inr (inl far)) (inr (inr also)) = inr (inr (omega (arith, ints, clamps), omega (arith, ints, clamps)))
least_alike v w x y (inr (inr far)) other = inr (inr (omega (arith, ints, clamps), omega (arith, ints, clamps)))

greatest_alike : (v w x y : ℤ) → AreAlike v w → AreAlike x y → AreAlike (int_max v x) (int_max w y)
greatest_alike v w x y (inl one) (inl other) = inl (rw (one, other) refl)
greatest_alike v w x y (inl one) (inr (inr far)) = by_lt_z (neg_ℤ (pos (2 ^ 64))) v (λ more. inl (omega (arith, ints, clamps))) (λ less. inr (inr (omega (arith, ints, clamps), omega (arith, ints, clamps))))
greatest_alike v w x y (inl one) (inr (inl far)) = inr (inl (omega (arith, ints, clamps), omega (arith, ints, clamps)))
greatest_alike v w x y (inr (inr far)) (inl other) = by_lt_z (neg_ℤ (pos (2 ^ 64))) x (λ more. inl (omega (arith, ints, clamps))) (λ less. inr (inr (omega (arith, ints, clamps), omega (arith, ints, clamps))))
greatest_alike v w x y (inr (inr far)) (inr (inr also)) = inr (inr (omega (arith, ints, clamps), omega (arith, ints, clamps)))
greatest_alike v w x y (inr (inr far)) (inr (inl also)) = inr (inl (omega (arith, ints, clamps), omega (arith, ints, clamps)))
greatest_alike v w x y (inr (inl far)) other = inr (inl (omega (arith, ints, clamps), omega (arith, ints, clamps)))

corners_up : (p q u v : ℤ) → (corners p q u v).lo ≤ℤ (corners p q u v).hi
corners_up p q u v = omega (arith, ints, clamps)

pub corners_alike : (p q u v p' q' u' v' : ℤ) → AreAlike p p' → AreAlike q q' → AreAlike u u' → AreAlike v v' → EndsAlike (corners p q u v) (corners p' q' u' v')
corners_alike p q u v p' q' u' v' a b c d = record {
  low = least_alike (int_min p q) (int_min p' q') (int_min u v) (int_min u' v') (least_alike p p' q q' a b) (least_alike u u' v v' c d);
  high = greatest_alike (int_max p q) (int_max p' q') (int_max u v) (int_max u' v') (greatest_alike p p' q q' a b) (greatest_alike u u' v v' c d);
  first_up = corners_up p q u v;
  second_up = corners_up p' q' u' v';
}

-- what a type makes of ends beyond it doesn't depend on them
low_same : (t : IntType) (v w : ℤ) → IsIntType t → AreAlike v w → (int_max v (least t) ≡ int_max w (least t)) ⊎ ((greatest t <ℤ int_max v (least t)) × (greatest t <ℤ int_max w (least t)))
low_same t v w is (inl same) = inl (rw same refl)
low_same t v w is (inr (inl far)) = let high = (small t is).high in inr (omega (arith, ints, clamps), omega (arith, ints, clamps))
low_same t v w is (inr (inr far)) = let low = (small t is).low in inl (omega (arith, ints, clamps))

high_same : (t : IntType) (v w : ℤ) → IsIntType t → AreAlike v w → (int_min v (greatest t) ≡ int_min w (greatest t)) ⊎ ((int_min v (greatest t) <ℤ least t) × (int_min w (greatest t) <ℤ least t))
high_same t v w is (inl same) = inl (rw same refl)
high_same t v w is (inr (inl far)) = let high = (small t is).high in inl (omega (arith, ints, clamps))
high_same t v w is (inr (inr far)) = let low = (small t is).low in inr (omega (arith, ints, clamps), omega (arith, ints, clamps))

le_not : (x y : ℤ) → y <ℤ x → int_le x y ≡ false
le_not x y less = grind (arith, ints)

none : (lo hi : ℤ) → hi <ℤ lo → some_range lo hi ≡ None
none lo hi less = cond-false (int_le lo hi) (Some (range lo hi)) None (le_not lo hi less)

ranges_same : (a b lo hi lo' hi' : ℤ) → hi ≤ℤ b → hi' ≤ℤ b → a ≤ℤ lo → a ≤ℤ lo' → (lo ≡ lo') ⊎ ((b <ℤ lo) × (b <ℤ lo')) → (hi ≡ hi') ⊎ ((hi <ℤ a) × (hi' <ℤ a)) → some_range lo hi ≡ some_range lo' hi'
ranges_same a b lo hi lo' hi' h h' l l' (inl one) (inl other) = rw (one, other) refl
ranges_same a b lo hi lo' hi' h h' l l' (inr one) other = none lo hi (let far = one.0 in omega (arith, ints)) ∙ sym (none lo' hi' (let far = one.1 in omega (arith, ints)))
ranges_same a b lo hi lo' hi' h h' l l' (inl one) (inr other) = none lo hi (let far = other.0 in omega (arith, ints)) ∙ sym (none lo' hi' (let far = other.1 in omega (arith, ints)))

parts_same : (t : IntType) (r s : Range) → IsIntType t → EndsAlike r s → part t (interval r.lo r.hi) ≡ part t (interval s.lo s.hi)
parts_same t r s is alike =
    ranges_same (least t) (greatest t) (int_max r.lo (least t)) (int_min r.hi (greatest t)) (int_max s.lo (least t)) (int_min s.hi (greatest t))
    (omega (arith, ints, clamps)) (omega (arith, ints, clamps)) (omega (arith, ints, clamps)) (omega (arith, ints, clamps))
    (low_same t r.lo s.lo is alike.low) (high_same t r.hi s.hi is alike.high)

-- an interval that reaches beyond the types doesn't lie within one
too_high : (t : IntType) (lo hi : ℤ) → IsIntType t → pos (2 ^ 64) ≤ℤ hi → interval_within (interval lo hi) (whole t) ≡ false
too_high t lo hi is far = let high = (small t is).high in and_right (int_le (least t) lo) (int_le hi (greatest t)) (le_not hi (greatest t) (omega (arith, ints)))

too_low : (t : IntType) (lo hi : ℤ) → IsIntType t → lo ≤ℤ neg_ℤ (pos (2 ^ 64)) → interval_within (interval lo hi) (whole t) ≡ false
too_low t lo hi is far = let low = (small t is).low in and_left (int_le (least t) lo) (int_le hi (greatest t)) (le_not (least t) lo (omega (arith, ints)))

abbrev kept : IntType → Interval → Interval
kept t a = cond (interval_within a (whole t)) a (whole t)

outside : (t : IntType) (a b : Interval) → interval_within a (whole t) ≡ false → interval_within b (whole t) ≡ false → kept t a ≡ kept t b
outside t a b one other = cond-false (interval_within a (whole t)) a (whole t) one ∙ sym (cond-false (interval_within b (whole t)) b (whole t) other)

kept_same : (t : IntType) (r s : Range) → IsIntType t → EndsAlike r s → kept t (interval r.lo r.hi) ≡ kept t (interval s.lo s.hi)
kept_same t r s is alike = by alike.low alike.high
  where
    up : r.lo ≤ℤ r.hi
    up = alike.first_up

    other_up : s.lo ≤ℤ s.hi
    other_up = alike.second_up

    by : AreAlike r.lo s.lo → AreAlike r.hi s.hi → kept t (interval r.lo r.hi) ≡ kept t (interval s.lo s.hi)
    by (inl low) (inl high) = rw (low, high) refl
    by (inr (inl low)) high = let first = up in let second = other_up in outside t (interval r.lo r.hi) (interval s.lo s.hi) (too_high t r.lo r.hi is (omega (arith, ints))) (too_high t s.lo s.hi is (omega (arith, ints)))
    by (inr (inr low)) high = outside t (interval r.lo r.hi) (interval s.lo s.hi) (too_low t r.lo r.hi is low.0) (too_low t s.lo s.hi is low.1)
    by (inl low) (inr (inl high)) = outside t (interval r.lo r.hi) (interval s.lo s.hi) (too_high t r.lo r.hi is high.0) (too_high t s.lo s.hi is high.1)
    by (inl low) (inr (inr high)) = let first = up in let second = other_up in outside t (interval r.lo r.hi) (interval s.lo s.hi) (too_low t r.lo r.hi is (omega (arith, ints))) (too_low t s.lo s.hi is (omega (arith, ints)))

pub conv_same : (t : IntType) (r s : Range) → IsIntType t → EndsAlike r s → conv_interval t (interval r.lo r.hi) ≡ conv_interval t (interval s.lo s.hi)
conv_same t r s is alike = by t.signed
  where
    by : (b : Bool) → cond b (as_interval (part t (interval r.lo r.hi))) (Some (kept t (interval r.lo r.hi))) ≡ cond b (as_interval (part t (interval s.lo s.hi))) (Some (kept t (interval s.lo s.hi)))
    by true = ap as_interval (parts_same t r s is alike)
    by false = ap Some (kept_same t r s is alike)
