-- Wider ranges have wider ranges of results.
use Rattle.std.proofs.Common.{◌≡◌, Bool, true, false, cond, arith, refl, ap}
use Rattle.std.specs.Prelude.{ℤ, pos, neg_ℤ, ◌≤ℤ◌, ◌<ℤ◌, ◌*ℤ◌, Option, Some, None, int_le, int_div, unsigned_abs}
use Rattle.std.specs.Int.{int_min, int_max}
use Rattle.std.proofs.lemmas.Int.{ints, clamps}
use Rattle.po_arith.specs.declared.range.Range.{Range}
use Rattle.po_arith.specs.Ranges.{range, IsPart, some_range, negatives, positives, both, over, quotients, most_left, least_left, greatest_left, remainders, shifted_up, shifted_down, shifts_up, ResultsWiden}
use Rattle.po_arith.proofs.Comparing.{le_tells, le_false}
use Rattle.po_arith.proofs.AtCorners.{IsAny, IsPositive, IsNegative, IsNatural, corners_monotone, products_go, positive_quotients_go, negative_quotients_go, shifts_go}
use Rattle.po_arith.proofs.RangesCover.{times_natural, natural_up}

pub some_range_is : (lo hi : ℤ) (s : Range) → some_range lo hi ≡ Some s → (lo ≡ s.lo) × (hi ≡ s.hi) × (lo ≤ℤ hi)
some_range_is lo hi s same = by (int_le lo hi) refl same
  where
    by : (b : Bool) → int_le lo hi ≡ b → cond b (Some (range lo hi)) None ≡ Some s → (lo ≡ s.lo) × (hi ≡ s.hi) × (lo ≤ℤ hi)
    by true test same = let is : range lo hi ≡ s = cc in (ap (λ (r : Range). r.lo) is, ap (λ (r : Range). r.hi) is, le_tells lo hi test)
    by false test same = absurd (cc)

pub some_range_part : (lo hi lo' hi' : ℤ) → lo' ≤ℤ lo → hi ≤ℤ hi' → IsPart (some_range lo hi) (some_range lo' hi')
some_range_part lo hi lo' hi' low high = by (int_le lo hi) (int_le lo' hi') refl refl
  where
    by : (b c : Bool) → int_le lo hi ≡ b → int_le lo' hi' ≡ c → IsPart (cond b (Some (range lo hi)) None) (cond c (Some (range lo' hi')) None)
    by false c test other = tt
    by true true test other = (low, high)
    by true false test other = let up = le_tells lo hi test in let less = le_false lo' hi' other in absurd (omega (arith, ints))

both_part : (a b c d : Option Range) → IsPart a c → IsPart b d → IsPart (both a b) (both c d)
both_part None None c d one other = tt
both_part None (Some s) None d one other = other
both_part None (Some s) (Some u) None one other = absurd other
both_part None (Some s) (Some u) (Some v) one other = (omega (arith, ints, clamps), omega (arith, ints, clamps))
both_part (Some r) b None d one other = absurd one
both_part (Some r) None (Some u) None one other = one
both_part (Some r) None (Some u) (Some v) one other = (omega (arith, ints, clamps), omega (arith, ints, clamps))
both_part (Some r) (Some s) (Some u) None one other = absurd other
both_part (Some r) (Some s) (Some u) (Some v) one other = (omega (arith, ints, clamps), omega (arith, ints, clamps))

-- quotients by divisors of one sign
over_part : (P : ℤ → Type 0) → ((r s u v : Range) → P v.lo → P v.hi → r.lo ≤ℤ r.hi → s.lo ≤ℤ s.hi → IsPart (Some r) (Some u) → IsPart (Some s) (Some v) → IsPart (over r (Some s)) (over u (Some v))) → (r u : Range) (o p : Option Range) → r.lo ≤ℤ r.hi → ((s : Range) → o ≡ Some s → s.lo ≤ℤ s.hi) → ((v : Range) → p ≡ Some v → P v.lo × P v.hi) → IsPart (Some r) (Some u) → IsPart o p → IsPart (over r o) (over u p)
over_part P go r u None p r_up s_up kind one other = tt
over_part P go r u (Some s) None r_up s_up kind one other = other
over_part P go r u (Some s) (Some v) r_up s_up kind one other = let is = kind v refl in go r s u v is.0 is.1 r_up (s_up s refl) one other

pub up_of : (lo hi : ℤ) (s : Range) → some_range lo hi ≡ Some s → s.lo ≤ℤ s.hi
up_of lo hi s same = let is = some_range_is lo hi s same in let low = is.0 in let high = is.1 in let up = is.2 in omega (arith, ints)

negative_ends : (s v : Range) → negatives s ≡ Some v → (v.lo <ℤ pos 0) × (v.hi <ℤ pos 0)
negative_ends s v same = let is = some_range_is s.lo (int_min s.hi (neg_ℤ (pos 1))) v same in let low = is.0 in let high = is.1 in let up = is.2 in (omega (arith, ints, clamps), omega (arith, ints, clamps))

positive_ends : (s v : Range) → positives s ≡ Some v → (pos 0 <ℤ v.lo) × (pos 0 <ℤ v.hi)
positive_ends s v same = let is = some_range_is (int_max s.lo (pos 1)) s.hi v same in let low = is.0 in let high = is.1 in let up = is.2 in (omega (arith, ints, clamps), omega (arith, ints, clamps))

quotients_part : (r s u v : Range) → r.lo ≤ℤ r.hi → IsPart (Some r) (Some u) → IsPart (Some s) (Some v) → IsPart (quotients r s) (quotients u v)
quotients_part r s u v r_up one other =
    both_part (over r (negatives s)) (over r (positives s)) (over u (negatives v)) (over u (positives v))
    (over_part IsNegative (corners_monotone int_div IsNegative negative_quotients_go) r u (negatives s) (negatives v) r_up (λ q same. up_of s.lo (int_min s.hi (neg_ℤ (pos 1))) q same) (λ q same. negative_ends v q same) one
    (some_range_part s.lo (int_min s.hi (neg_ℤ (pos 1))) v.lo (int_min v.hi (neg_ℤ (pos 1))) other.0 (let high = other.1 in omega (arith, ints, clamps))))
    (over_part IsPositive (corners_monotone int_div IsPositive positive_quotients_go) r u (positives s) (positives v) r_up (λ q same. up_of (int_max s.lo (pos 1)) s.hi q same) (λ q same. positive_ends v q same) one
    (some_range_part (int_max s.lo (pos 1)) s.hi (int_max v.lo (pos 1)) v.hi (let low = other.0 in omega (arith, ints, clamps)) other.1))

-- remainders
least_left_part : (lo lo' most most' : ℤ) → lo' ≤ℤ lo → most ≤ℤ most' → pos 0 ≤ℤ most → least_left lo' most' ≤ℤ least_left lo most
least_left_part lo lo' most most' low more some = by (int_le (pos 0) lo) (int_le (pos 0) lo') refl refl
  where
    by : (b c : Bool) → int_le (pos 0) lo ≡ b → int_le (pos 0) lo' ≡ c → cond c (pos 0) (int_max lo' (neg_ℤ most')) ≤ℤ cond b (pos 0) (int_max lo (neg_ℤ most))
    by true true test other = omega (arith, ints)
    by true false test other = let less = le_false (pos 0) lo' other in omega (arith, ints, clamps)
    by false false test other = omega (arith, ints, clamps)
    by false true test other = let less = le_false (pos 0) lo test in let up = le_tells (pos 0) lo' other in absurd (omega (arith, ints))

greatest_left_part : (hi hi' most most' : ℤ) → hi ≤ℤ hi' → most ≤ℤ most' → pos 0 ≤ℤ most → greatest_left hi most ≤ℤ greatest_left hi' most'
greatest_left_part hi hi' most most' high more some = by (int_le hi (pos 0)) (int_le hi' (pos 0)) refl refl
  where
    by : (b c : Bool) → int_le hi (pos 0) ≡ b → int_le hi' (pos 0) ≡ c → cond b (pos 0) (int_min hi most) ≤ℤ cond c (pos 0) (int_min hi' most')
    by true true test other = omega (arith, ints)
    by true false test other = let above = le_false hi' (pos 0) other in omega (arith, ints, clamps)
    by false false test other = omega (arith, ints, clamps)
    by false true test other = let above = le_false hi (pos 0) test in let down = le_tells hi' (pos 0) other in absurd (omega (arith, ints))

most_part : (s v : Range) → IsPart (Some s) (Some v) → most_left s ≤ℤ most_left v
most_part s v other = let low = other.0 in let high = other.1 in omega (arith, ints, clamps)

remainders_part : (r s u v : Range) → IsPart (Some r) (Some u) → IsPart (Some s) (Some v) → IsPart (remainders r s) (remainders u v)
remainders_part r s u v one other = by (int_le (pos 0) (most_left s)) (int_le (pos 0) (most_left v)) refl refl
  where
    below : (x y : ℤ) → x ≤ℤ y → pos 0 ≤ℤ x → y <ℤ pos 0 → ⊥
    below x y up some less = absurd (omega (arith, ints))

    more : most_left s ≤ℤ most_left v
    more = most_part s v other

    by : (b c : Bool) → int_le (pos 0) (most_left s) ≡ b → int_le (pos 0) (most_left v) ≡ c → IsPart (cond b (Some (range (least_left r.lo (most_left s)) (greatest_left r.hi (most_left s)))) None) (cond c (Some (range (least_left u.lo (most_left v)) (greatest_left u.hi (most_left v)))) None)
    by false c test other_test = tt
    by true true test other_test =
        let some = le_tells (pos 0) (most_left s) test in
        (least_left_part r.lo u.lo (most_left s) (most_left v) one.0 more some, greatest_left_part r.hi u.hi (most_left s) (most_left v) one.1 more some)
    by true false test other_test = absurd (below (most_left s) (most_left v) more (le_tells (pos 0) (most_left s) test) (le_false (pos 0) (most_left v) other_test))

shifts_up_part : (r s u v : Range) → s.lo ≤ℤ s.hi → pos 0 ≤ℤ v.lo → IsPart (Some r) (Some u) → IsPart (Some s) (Some v) → IsPart (shifts_up r s) (shifts_up u v)
shifts_up_part r s u v s_up some one other = by (int_le (pos 0) r.hi) (int_le (pos 0) u.hi) refl refl
  where
    by : (b c : Bool) → int_le (pos 0) r.hi ≡ b → int_le (pos 0) u.hi ≡ c → IsPart (cond b (Some (range (shifted_up (int_max r.lo (pos 0)) s.lo) (shifted_up r.hi s.hi))) None) (cond c (Some (range (shifted_up (int_max u.lo (pos 0)) v.lo) (shifted_up u.hi v.hi))) None)
    by false c test wider = tt
    by true true test wider =
        let up = le_tells (pos 0) r.hi test in
        let low = one.0 in
        let low_count = other.0 in (
          times_natural (int_max u.lo (pos 0)) (int_max r.lo (pos 0)) (unsigned_abs v.lo) (unsigned_abs s.lo) (omega (arith, ints, clamps)) (omega (arith, ints, clamps)) (natural_up v.lo s.lo some other.0),
          times_natural r.hi u.hi (unsigned_abs s.hi) (unsigned_abs v.hi) up one.1 (natural_up s.hi v.hi (omega (arith, ints)) other.1),
        )
    by true false test wider = let up = le_tells (pos 0) r.hi test in let less = le_false (pos 0) u.hi wider in let high = one.1 in absurd (omega (arith, ints))

pub results_widen : ResultsWiden
results_widen = record {
  sums = λ r s u v one other. (omega (arith, ints), omega (arith, ints));
  differences = λ r s u v one other. (omega (arith, ints), omega (arith, ints));
  products = λ r s u v r_up s_up one other. corners_monotone (λ x y. x *ℤ y) IsAny products_go r s u v tt tt r_up s_up one other;
  quotients = quotients_part;
  remainders = remainders_part;
  shifts_up = shifts_up_part;
  shifts_down = λ r s u v r_up s_up natural one other. corners_monotone shifted_down IsNatural shifts_go r s u v natural (omega (arith, ints)) r_up s_up one other;
}
