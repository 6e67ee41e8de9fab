-- Results lie in the ranges of results.
use Rattle.std.proofs.Common.{◌≡◌, ◌≤◌, ◌<◌, ◌%◌, ◌^◌, ℕ, zero, suc, Bool, true, false, cond, arith, refl, inl, inr}
use Rattle.std.specs.Prelude.{ℤ, pos, negsuc, neg_ℤ, ◌≤ℤ◌, ◌<ℤ◌, ◌+ℤ◌, ◌-ℤ◌, ◌*ℤ◌, ◌⊎◌, ◌≢◌, Option, Some, None, int_le, int_div, int_rem, unsigned_abs}
use Rattle.std.specs.Int.{int_min, int_max}
use Rattle.std.proofs.lemmas.Int.{ints, clamps, by_lt_z}
use Rattle.std.proofs.lemmas.Nat.{div-add-mod', mod_below}
use Rattle.std.proofs.Math.Nat.{mul-le-mul_left, mul-le-mul_right}
use Rattle.std.proofs.Math.IntN.{pos-*ℤ-pos}
use Rattle.po_arith.specs.declared.range.Range.{Range}
use Rattle.po_arith.specs.Ranges.{range, Spans, some_range, sums, differences, products, negatives, positives, both, over, quotients, most_left, remainders, shifted_up, shifted_down, shifts_up, shifts_down, ResultsAreCovered}
use Rattle.po_arith.proofs.Comparing.{le_tells, le_false}
use Rattle.po_arith.proofs.Powers.{pow_up}
use Rattle.po_arith.proofs.AtCorners.{IsAny, IsPositive, IsNegative, IsNatural, corners_cover, products_go, positive_quotients_go, negative_quotients_go, shifts_go}

pub some_spans : (lo hi v : ℤ) → lo ≤ℤ v → v ≤ℤ hi → Spans (some_range lo hi) v
some_spans lo hi v low high = by (int_le lo hi) refl
  where
    by : (b : Bool) → int_le lo hi ≡ b → Spans (cond b (Some (range lo hi)) None) v
    by true test = (low, high)
    by false test = let less = le_false lo hi test in absurd (omega (arith, ints))

-- each operation on whole numbers
pub sums_cover : (r s : Range) (v w : ℤ) → Spans (Some r) v → Spans (Some s) w → Spans (Some (sums r s)) (v +ℤ w)
sums_cover r s v w v_in w_in = (omega (arith, ints), omega (arith, ints))

pub differences_cover : (r s : Range) (v w : ℤ) → Spans (Some r) v → Spans (Some s) w → Spans (Some (differences r s)) (v -ℤ w)
differences_cover r s v w v_in w_in = (omega (arith, ints), omega (arith, ints))

pub products_cover : (r s : Range) (v w : ℤ) → Spans (Some r) v → Spans (Some s) w → Spans (Some (products r s)) (v *ℤ w)
products_cover r s v w v_in w_in = corners_cover (λ v w. v *ℤ w) IsAny products_go r s v w tt tt v_in w_in

both_first : (a b : Option Range) (v : ℤ) → Spans a v → Spans (both a b) v
both_first None b v v_in = absurd v_in
both_first (Some r) None v v_in = v_in
both_first (Some r) (Some s) v v_in = (omega (arith, ints, clamps), omega (arith, ints, clamps))

both_second : (a b : Option Range) (v : ℤ) → Spans b v → Spans (both a b) v
both_second None b v v_in = v_in
both_second (Some r) None v v_in = absurd v_in
both_second (Some r) (Some s) v v_in = (omega (arith, ints, clamps), omega (arith, ints, clamps))

over_positives : (r s : Range) (v w : ℤ) → Spans (Some r) v → Spans (Some s) w → pos 0 <ℤ w → Spans (over r (positives s)) (int_div v w)
over_positives r s v w v_in w_in some = by (int_le (int_max s.lo (pos 1)) s.hi) refl
  where
    by : (b : Bool) → int_le (int_max s.lo (pos 1)) s.hi ≡ b → Spans (over r (cond b (Some (range (int_max s.lo (pos 1)) s.hi)) None)) (int_div v w)
    by true test =
        let ends = le_tells (int_max s.lo (pos 1)) s.hi test in
        corners_cover int_div IsPositive positive_quotients_go r (range (int_max s.lo (pos 1)) s.hi) v w (omega (arith, ints, clamps)) (omega (arith, ints, clamps)) v_in (omega (arith, ints, clamps), w_in.1)
    by false test = let less = le_false (int_max s.lo (pos 1)) s.hi test in absurd (omega (arith, ints, clamps))

over_negatives : (r s : Range) (v w : ℤ) → Spans (Some r) v → Spans (Some s) w → w <ℤ pos 0 → Spans (over r (negatives s)) (int_div v w)
over_negatives r s v w v_in w_in some = by (int_le s.lo (int_min s.hi (neg_ℤ (pos 1)))) refl
  where
    by : (b : Bool) → int_le s.lo (int_min s.hi (neg_ℤ (pos 1))) ≡ b → Spans (over r (cond b (Some (range s.lo (int_min s.hi (neg_ℤ (pos 1))))) None)) (int_div v w)
    by true test =
        let ends = le_tells s.lo (int_min s.hi (neg_ℤ (pos 1))) test in
        corners_cover int_div IsNegative negative_quotients_go r (range s.lo (int_min s.hi (neg_ℤ (pos 1)))) v w (omega (arith, ints, clamps)) (omega (arith, ints, clamps)) v_in (w_in.0, omega (arith, ints, clamps))
    by false test = let less = le_false s.lo (int_min s.hi (neg_ℤ (pos 1))) test in absurd (omega (arith, ints, clamps))

pub quotients_cover : (r s : Range) (v w : ℤ) → Spans (Some r) v → Spans (Some s) w → w ≢ pos 0 → Spans (quotients r s) (int_div v w)
quotients_cover r s v w v_in w_in some =
    by_lt_z w (pos 0)
    (λ less. both_first (over r (negatives s)) (over r (positives s)) _ (over_negatives r s v w v_in w_in less))
    (λ not_less. by_lt_z (pos 0) w
    (λ more. both_second (over r (negatives s)) (over r (positives s)) _ (over_positives r s v w v_in w_in more))
    (λ not_more. absurd (some (omega (arith, ints)))))

-- a remainder is smaller than the divisor, no greater than what is divided, and on its side of 0
pub record IsLeft (v w x : ℤ) : Type 0 where
  pub above : (neg_ℤ w <ℤ x) ⊎ (w <ℤ x)
  pub below : (x <ℤ w) ⊎ (x <ℤ neg_ℤ w)
  pub low : (pos 0 ≤ℤ x) ⊎ ((v ≤ℤ x) × (v <ℤ pos 0))
  pub high : (x ≤ℤ pos 0) ⊎ ((x ≤ℤ v) × (pos 0 <ℤ v))

some_size : (w : ℤ) → w ≢ pos 0 → 0 < unsigned_abs w
some_size (pos zero) some = absurd (some refl)
some_size (pos (suc n)) some = omega arith
some_size (negsuc n) some = omega arith

size_of : (w : ℤ) → (pos (unsigned_abs w) ≡ w) ⊎ (pos (unsigned_abs w) ≡ neg_ℤ w)
size_of (pos n) = inl refl
size_of (negsuc n) = inr refl

mod_least : (a m : ℕ) → a % m ≤ a
mod_least a m = let whole = div-add-mod' a m in omega arith

left_high : (a m : ℕ) → (pos (a % m) ≤ℤ pos 0) ⊎ ((pos (a % m) ≤ℤ pos a) × (pos 0 <ℤ pos a))
left_high zero m = let less = mod_least zero m in inl (omega (arith, ints))
left_high (suc a) m = let less = mod_least (suc a) m in inr (omega (arith, ints), omega (arith, ints))

left_of : (v w : ℤ) → w ≢ pos 0 → IsLeft v w (int_rem v w)
left_of (pos a) w some = by (size_of w)
  where
    by : (pos (unsigned_abs w) ≡ w) ⊎ (pos (unsigned_abs w) ≡ neg_ℤ w) → IsLeft (pos a) w (pos (a % unsigned_abs w))
    by (inl same) = let low = mod_below a (unsigned_abs w) (some_size w some) in record { above = inl (omega (arith, ints)); below = inl (omega (arith, ints)); low = inl (omega (arith, ints)); high = left_high a (unsigned_abs w) }
    by (inr same) = let low = mod_below a (unsigned_abs w) (some_size w some) in record { above = inr (omega (arith, ints)); below = inr (omega (arith, ints)); low = inl (omega (arith, ints)); high = left_high a (unsigned_abs w) }
left_of (negsuc a) w some = by (size_of w)
  where
    by : (pos (unsigned_abs w) ≡ w) ⊎ (pos (unsigned_abs w) ≡ neg_ℤ w) → IsLeft (negsuc a) w (neg_ℤ (pos (suc a % unsigned_abs w)))
    by (inl same) = let low = mod_below (suc a) (unsigned_abs w) (some_size w some) in let less = mod_least (suc a) (unsigned_abs w) in record { above = inl (omega (arith, ints)); below = inl (omega (arith, ints)); low = inr (omega (arith, ints), omega (arith, ints)); high = inl (omega (arith, ints)) }
    by (inr same) = let low = mod_below (suc a) (unsigned_abs w) (some_size w some) in let less = mod_least (suc a) (unsigned_abs w) in record { above = inr (omega (arith, ints)); below = inr (omega (arith, ints)); low = inr (omega (arith, ints), omega (arith, ints)); high = inl (omega (arith, ints)) }

pub remainders_cover : (r s : Range) (v w : ℤ) → Spans (Some r) v → Spans (Some s) w → w ≢ pos 0 → Spans (remainders r s) (int_rem v w)
remainders_cover r s v w v_in w_in some = by (int_le (pos 0) (most_left s)) refl (left_of v w some)
  where
    lows : (b : Bool) → int_le (pos 0) r.lo ≡ b → IsLeft v w (int_rem v w) → cond b (pos 0) (int_max r.lo (neg_ℤ (most_left s))) ≤ℤ int_rem v w
    lows true test is = let up = le_tells (pos 0) r.lo test in elim is.low [ inl some ↦ some | inr less ↦ absurd (omega (arith, ints)) ]
    lows false test is = let down = le_false (pos 0) r.lo test in elim is.low [ inl some ↦ elim is.above [ inl one ↦ omega (arith, ints, clamps) | inr one ↦ omega (arith, ints, clamps) ] | inr less ↦ elim is.above [ inl one ↦ omega (arith, ints, clamps) | inr one ↦ omega (arith, ints, clamps) ] ]

    highs : (b : Bool) → int_le r.hi (pos 0) ≡ b → IsLeft v w (int_rem v w) → int_rem v w ≤ℤ cond b (pos 0) (int_min r.hi (most_left s))
    highs true test is = let down = le_tells r.hi (pos 0) test in elim is.high [ inl none ↦ none | inr more ↦ absurd (omega (arith, ints)) ]
    highs false test is = let up = le_false r.hi (pos 0) test in elim is.high [ inl none ↦ elim is.below [ inl one ↦ omega (arith, ints, clamps) | inr one ↦ omega (arith, ints, clamps) ] | inr more ↦ elim is.below [ inl one ↦ omega (arith, ints, clamps) | inr one ↦ omega (arith, ints, clamps) ] ]

    by : (b : Bool) → int_le (pos 0) (most_left s) ≡ b → IsLeft v w (int_rem v w) → Spans (cond b (Some (range (cond (int_le (pos 0) r.lo) (pos 0) (int_max r.lo (neg_ℤ (most_left s)))) (cond (int_le r.hi (pos 0)) (pos 0) (int_min r.hi (most_left s))))) None) (int_rem v w)
    by true test is = (lows (int_le (pos 0) r.lo) refl is, highs (int_le r.hi (pos 0)) refl is)
    by false test is = let none = le_false (pos 0) (most_left s) test in some (omega (arith, ints, clamps))

-- shifts
pub times_natural : (a v : ℤ) (c w : ℕ) → pos 0 ≤ℤ a → a ≤ℤ v → c ≤ w → (a *ℤ pos (2 ^ c)) ≤ℤ (v *ℤ pos (2 ^ w))
times_natural (pos a) (pos v) c w some below fewer =
    rw (pos-*ℤ-pos a (2 ^ c), pos-*ℤ-pos v (2 ^ w))
    (let less : a ≤ v = omega (arith, ints) in
    let first = mul-le-mul_right (2 ^ c) less in
    let second = mul-le-mul_left v (pow_up c w fewer) in
    omega (arith, ints))
times_natural (negsuc a) v c w some below fewer = absurd (omega (arith, ints))
times_natural (pos a) (negsuc v) c w some below fewer = absurd (omega (arith, ints))

pub natural_up : (c w : ℤ) → pos 0 ≤ℤ c → c ≤ℤ w → unsigned_abs c ≤ unsigned_abs w
natural_up (pos c) (pos w) some below = omega (arith, ints)
natural_up (pos c) (negsuc w) some below = absurd (omega (arith, ints))
natural_up (negsuc c) w some below = absurd (omega (arith, ints))

pub shifts_up_cover : (r s : Range) (v w : ℤ) → Spans (Some r) v → Spans (Some s) w → pos 0 ≤ℤ s.lo → pos 0 ≤ℤ v → Spans (shifts_up r s) (shifted_up v w)
shifts_up_cover r s v w v_in w_in natural some = by (int_le (pos 0) r.hi) refl
  where
    by : (b : Bool) → int_le (pos 0) r.hi ≡ b → Spans (cond b (Some (range (shifted_up (int_max r.lo (pos 0)) s.lo) (shifted_up r.hi s.hi))) None) (shifted_up v w)
    by true test = (
      times_natural (int_max r.lo (pos 0)) v (unsigned_abs s.lo) (unsigned_abs w) (omega (arith, ints, clamps)) (omega (arith, ints, clamps)) (natural_up s.lo w natural w_in.0),
      times_natural v r.hi (unsigned_abs w) (unsigned_abs s.hi) some v_in.1 (natural_up w s.hi (omega (arith, ints)) w_in.1),
    )
    by false test = let less = le_false (pos 0) r.hi test in absurd (omega (arith, ints))

pub shifts_down_cover : (r s : Range) (v w : ℤ) → Spans (Some r) v → Spans (Some s) w → pos 0 ≤ℤ s.lo → Spans (Some (shifts_down r s)) (shifted_down v w)
shifts_down_cover r s v w v_in w_in natural = corners_cover shifted_down IsNatural shifts_go r s v w natural (omega (arith, ints)) v_in w_in

pub results_are_covered : ResultsAreCovered
results_are_covered = record {
  sums = sums_cover;
  differences = differences_cover;
  products = products_cover;
  quotients = quotients_cover;
  remainders = remainders_cover;
  shifts_up = shifts_up_cover;
  shifts_down = shifts_down_cover;
}
