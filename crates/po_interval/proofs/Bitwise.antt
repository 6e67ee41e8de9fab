-- Results of `&`, `|` and `^` lie between 0 and what holds both numbers, or among those of the type.
use Rattle.std.proofs.Common.{◌≡◌, ◌≤◌, ◌^◌, ℕ, Bool, true, false, cond, arith, refl}
use Rattle.std.specs.Prelude.{◌&&◌, ℤ, pos, ◌≤ℤ◌, ◌<ℤ◌, Some, int_le}
use Rattle.std.specs.Int.{int_min, int_max, int_bit_and, int_bit_or, int_bit_xor, w128}
use Rattle.std.proofs.lemmas.Int.{ints, clamps}
use Rattle.std.proofs.lemmas.Bool.{and_parts}
use Rattle.std.proofs.lemmas.Nat.{pow_pos}
use Rattle.po_arith.specs.declared.int_type.IntType.{IntType}
use Rattle.po_arith.specs.declared.range.Range.{Range}
use Rattle.po_arith.specs.Types.{IsIntType, IsOfType, greatest}
use Rattle.po_arith.specs.Bits.{bits_of, filled}
use Rattle.po_arith.specs.Ranges.{range, Spans}
use Rattle.po_arith.proofs.Comparing.{le_tells}
use Rattle.po_arith.proofs.Powers.{few_enough}
use Rattle.po_arith.proofs.Sizes.{small, fits_between, fits_of_type}
use Rattle.po_arith.proofs.BitsNeeded.{filled_holds}
use Rattle.po_arith.proofs.BitsKept.{and_first, and_second, and_of_type, or_below, xor_below, or_of_type, xor_of_type}
use Rattle.po_interval.specs.Ranges.{all, conjunctions, disjunctions}

pub conjunctions_cover : (t : IntType) (r s : Range) (v w : ℤ) → IsIntType t → IsOfType t v → IsOfType t w → Spans (Some r) v → Spans (Some s) w → Spans (Some (conjunctions t r s)) (int_bit_and w128 v w)
conjunctions_cover t r s v w is v_of w_of v_in w_in = by (int_le (pos 0) r.lo) refl (int_le (pos 0) s.lo) refl
  where
    by : (b : Bool) → int_le (pos 0) r.lo ≡ b → (c : Bool) → int_le (pos 0) s.lo ≡ c → Spans (Some (cond b (range (pos 0) (cond c (int_min r.hi s.hi) r.hi)) (cond c (range (pos 0) s.hi) (all t)))) (int_bit_and w128 v w)
    by true test true other =
        let r_up = le_tells (pos 0) r.lo test in
        let s_up = le_tells (pos 0) s.lo other in
        let one = and_first v w (fits_of_type t v is v_of) (omega (arith, ints)) in
        let two = and_second v w (fits_of_type t w is w_of) (omega (arith, ints)) in
        (one.0, omega (arith, ints, clamps))
    by true test false other =
        let r_up = le_tells (pos 0) r.lo test in
        let one = and_first v w (fits_of_type t v is v_of) (omega (arith, ints)) in
        (one.0, omega (arith, ints))
    by false test true other =
        let s_up = le_tells (pos 0) s.lo other in
        let two = and_second v w (fits_of_type t w is w_of) (omega (arith, ints)) in
        (two.0, omega (arith, ints))
    by false test false other = and_of_type t v w is v_of w_of

-- an operation that keeps numbers of k bits, and numbers of the type
module _ (f : ℤ → ℤ → ℤ)
    (below : (k : ℕ) (v w : ℤ) → k ≤ 127 → pos 0 ≤ℤ v → v <ℤ pos (2 ^ k) → pos 0 ≤ℤ w → w <ℤ pos (2 ^ k) → (pos 0 ≤ℤ f v w) × (f v w <ℤ pos (2 ^ k)))
    (of_type : (t : IntType) (v w : ℤ) → IsIntType t → IsOfType t v → IsOfType t w → IsOfType t (f v w)) where
  pub disjunctions_cover : (t : IntType) (r s : Range) (v w : ℤ) → IsIntType t → IsOfType t v → IsOfType t w → r.hi ≤ℤ greatest t → s.hi ≤ℤ greatest t → Spans (Some r) v → Spans (Some s) w → Spans (Some (disjunctions t r s)) (f v w)
  disjunctions_cover t r s v w is v_of w_of r_high s_high v_in w_in = by (int_le (pos 0) r.lo && int_le (pos 0) s.lo) refl
    where
      by : (b : Bool) → (int_le (pos 0) r.lo && int_le (pos 0) s.lo) ≡ b → Spans (Some (cond b (range (pos 0) (filled (int_max r.hi s.hi))) (all t))) (f v w)
      by true test =
          let tests = and_parts (int_le (pos 0) r.lo) (int_le (pos 0) s.lo) test in
          let r_up = le_tells (pos 0) r.lo tests.0 in
          let s_up = le_tells (pos 0) s.lo tests.1 in
          let most = (small t is).high in
          let fits = fits_between (int_max r.hi s.hi) (omega (arith, ints, clamps)) (omega (arith, ints, clamps)) in
          let held = filled_holds (int_max r.hi s.hi) fits (omega (arith, ints, clamps)) in
          let more = held.0 in
          let few = few_enough (bits_of (int_max r.hi s.hi)) (int_max r.hi s.hi) (omega (arith, ints, clamps)) held.1 in
          let ends = below (bits_of (int_max r.hi s.hi)) v w (omega arith) (omega (arith, ints)) (omega (arith, ints, clamps)) (omega (arith, ints)) (omega (arith, ints, clamps)) in
          let some = pow_pos (bits_of (int_max r.hi s.hi)) in
          (ends.0, (let less = ends.1 in omega (arith, ints)))
      by false test = of_type t v w is v_of w_of

pub or_cover : (t : IntType) (r s : Range) (v w : ℤ) → IsIntType t → IsOfType t v → IsOfType t w → r.hi ≤ℤ greatest t → s.hi ≤ℤ greatest t → Spans (Some r) v → Spans (Some s) w → Spans (Some (disjunctions t r s)) (int_bit_or w128 v w)
or_cover = disjunctions_cover (int_bit_or w128) or_below or_of_type

pub xor_cover : (t : IntType) (r s : Range) (v w : ℤ) → IsIntType t → IsOfType t v → IsOfType t w → r.hi ≤ℤ greatest t → s.hi ≤ℤ greatest t → Spans (Some r) v → Spans (Some s) w → Spans (Some (disjunctions t r s)) (int_bit_xor w128 v w)
xor_cover = disjunctions_cover (int_bit_xor w128) xor_below xor_of_type
