-- What is done bit by bit to numbers of a type gives numbers of the type.
use Rattle.std.proofs.Common.{◌≡◌, ◌≤◌, ◌<◌, ◌+◌, ◌-◌, ◌*◌, ◌/◌, ◌%◌, ◌^◌, ℕ, zero, suc, true, false, arith, sym, refl, ap, ◌∙◌, subst, inl, inr, min, max, FitsSigned}
use Rattle.std.specs.Prelude.{ℤ, pos, negsuc, neg_ℤ, ◌≤ℤ◌, ◌<ℤ◌, ◌⊎◌, bit_and, bit_or, bit_xor}
use Rattle.std.specs.Int.{bit_at, int_bit_and, int_bit_or, int_bit_xor, w128, cast_unsigned}
use Rattle.std.proofs.lemmas.Int.{ints, to_z_pos}
use Rattle.std.proofs.lemmas.Nat.{and_le_l, and_le_r, or_lt, xor_lt, pow_pos, pow-add}
use Rattle.std.proofs.lemmas.Nat.Bits.{bit_at_above, same_from_bits}
use Rattle.std.proofs.Math.Nat.{pow-suc, div-div-eq-div-mul, lt-div-mul-add}
use Rattle.po_arith.specs.declared.int_type.IntType.{IntType}
use Rattle.po_arith.specs.Types.{IsIntType, IsOfType, least, greatest}
use Rattle.po_arith.specs.Bits.{bit}
use Rattle.po_arith.proofs.BitByBit.{and_is, or_is, xor_is}
use Rattle.po_arith.proofs.Powers.{pow_up}
use Rattle.po_arith.proofs.Sizes.{small, fits_of_type, sign_of, least_unsigned, greatest_unsigned}

-- a number of k bits and a sign has the same bits from the sign on
below_from_bits : (n k : ℕ) → ((i : ℕ) → k ≤ i → bit_at n i ≡ 0) → n < 2 ^ k
below_from_bits n k none =
    let zero_bits = λ (i : ℕ). ap (λ (m : ℕ). m % 2) (div-div-eq-div-mul n (2 ^ k) (2 ^ i) ∙ ap (λ (m : ℕ). n / m) (sym (pow-add 2 k i))) ∙ none (k + i) (omega arith) ∙ sym (bit_at_above 0 0 i (omega arith) (omega arith)) in
    let gone : n / 2 ^ k ≡ 0 = same_from_bits (n / 2 ^ k) 0 zero_bits in
    let rest = lt-div-mul-add {a = n} {b = 2 ^ k} (pow_pos k) in
    let less : n < 0 * 2 ^ k + 2 ^ k = subst (λ (m : ℕ). n < m * 2 ^ k + 2 ^ k) gone rest in
    omega arith

below_power : (m : ℕ) → m < 2 ^ m
below_power zero = omega arith
below_power (suc m) = let less = below_power m in let twice = pow-suc 2 m in omega arith

above_itself : (n k i : ℕ) → n + k ≤ i → bit_at n i ≡ 0
above_itself n k i far = bit_at_above n n i (below_power n) (omega arith)

pub bits_alike : (k : ℕ) (v : ℤ) → neg_ℤ (pos (2 ^ k)) ≤ℤ v → v <ℤ pos (2 ^ k) → (i : ℕ) → k ≤ i → bit v i ≡ bit v k
bits_alike k (pos n) low high i above = bit_at_above n k i (omega (arith, ints)) above ∙ sym (bit_at_above n k k (omega (arith, ints)) (omega arith))
bits_alike k (negsuc n) low high i above = ap (λ (m : ℕ). 1 - m) (bit_at_above n k i (omega (arith, ints)) above ∙ sym (bit_at_above n k k (omega (arith, ints)) (omega arith)))

pub between_from_bits : (k : ℕ) (v : ℤ) → ((i : ℕ) → k ≤ i → bit v i ≡ bit v k) → (neg_ℤ (pos (2 ^ k)) ≤ℤ v) × (v <ℤ pos (2 ^ k))
between_from_bits k (pos n) alike =
    let far = alike (n + k) (omega arith) in
    let none = above_itself n k (n + k) (omega arith) in
    let less = below_from_bits n k (λ i above. alike i above ∙ sym far ∙ none) in
    (omega (arith, ints), omega (arith, ints))
between_from_bits k (negsuc n) alike =
    let far = alike (n + k) (omega arith) in
    let none = above_itself n k (n + k) (omega arith) in
    let less = below_from_bits n k (λ i above. zero_bit _ _ (bit_small n i) (alike i above ∙ sym far) none) in
    (omega (arith, ints), omega (arith, ints))
  where
    bit_small : (m i : ℕ) → bit_at m i < 2
    bit_small m i = omega arith

    zero_bit : (x y : ℕ) → x < 2 → 1 - x ≡ 1 - y → y ≡ 0 → x ≡ 0
    zero_bit x y small same none = omega arith

-- an operation on each bit keeps the numbers of a signed type
module _ (each : ℕ → ℕ → ℕ) where
  kept : (k : ℕ) (v w x : ℤ) → ((i : ℕ) → bit x i ≡ each (bit v i) (bit w i)) → ((i : ℕ) → k ≤ i → bit v i ≡ bit v k) → ((i : ℕ) → k ≤ i → bit w i ≡ bit w k) → (neg_ℤ (pos (2 ^ k)) ≤ℤ x) × (x <ℤ pos (2 ^ k))
  kept k v w x is v_alike w_alike =
      between_from_bits k x (λ i above. is i ∙ ap (λ (m : ℕ). each m (bit w i)) (v_alike i above) ∙ ap (each (bit v k)) (w_alike i above) ∙ sym (is k))

  pub kept_of_type : (t : IntType) (v w x : ℤ) → t.signed ≡ true → IsOfType t v → IsOfType t w → ((i : ℕ) → bit x i ≡ each (bit v i) (bit w i)) → IsOfType t x
  kept_of_type t v w x kind v_of w_of is =
      let first : least t ≡ neg_ℤ (pos (2 ^ (t.bits - 1))) = rw kind refl in
      let last : greatest t ≡ pos (2 ^ (t.bits - 1) - 1) = rw kind refl in
      let one = pow_pos (t.bits - 1) in
      let v_low = v_of.0 in
      let v_high = v_of.1 in
      let w_low = w_of.0 in
      let w_high = w_of.1 in
      let ends = kept (t.bits - 1) v w x is (bits_alike (t.bits - 1) v (omega (arith, ints)) (omega (arith, ints))) (bits_alike (t.bits - 1) w (omega (arith, ints)) (omega (arith, ints))) in
      (omega (arith, ints), omega (arith, ints))

-- conjunctions: no more than each of the numbers that isn't negative
pub and_first : (v w : ℤ) → FitsSigned w128 v → pos 0 ≤ℤ v → (pos 0 ≤ℤ int_bit_and w128 v w) × (int_bit_and w128 v w ≤ℤ v)
and_first (pos n) w fits some =
    let less = and_le_l n (cast_unsigned w128 w) in
    let size = fits.sfits in
    let is = to_z_pos w128 (bit_and n (cast_unsigned w128 w)) (omega arith) in
    (omega (arith, ints), omega (arith, ints))
and_first (negsuc n) w fits some = absurd (omega (arith, ints))

pub and_second : (v w : ℤ) → FitsSigned w128 w → pos 0 ≤ℤ w → (pos 0 ≤ℤ int_bit_and w128 v w) × (int_bit_and w128 v w ≤ℤ w)
and_second v (pos n) fits some =
    let less = and_le_r (cast_unsigned w128 v) n in
    let size = fits.sfits in
    let is = to_z_pos w128 (bit_and (cast_unsigned w128 v) n) (omega arith) in
    (omega (arith, ints), omega (arith, ints))
and_second v (negsuc n) fits some = absurd (omega (arith, ints))

pub and_of_type : (t : IntType) (v w : ℤ) → IsIntType t → IsOfType t v → IsOfType t w → IsOfType t (int_bit_and w128 v w)
and_of_type t v w is v_of w_of = by (sign_of t)
  where
    by : (t.signed ≡ true) ⊎ (t.signed ≡ false) → IsOfType t (int_bit_and w128 v w)
    by (inl kind) = kept_of_type min t v w (int_bit_and w128 v w) kind v_of w_of (and_is v w (fits_of_type t v is v_of) (fits_of_type t w is w_of))
    by (inr kind) =
        let first = least_unsigned t kind in
        let v_low = v_of.0 in
        let v_high = v_of.1 in
        let ends = and_first v w (fits_of_type t v is v_of) (omega (arith, ints)) in
        (omega (arith, ints), omega (arith, ints))

-- numbers of k bits
pub or_below : (k : ℕ) (v w : ℤ) → k ≤ 127 → pos 0 ≤ℤ v → v <ℤ pos (2 ^ k) → pos 0 ≤ℤ w → w <ℤ pos (2 ^ k) → (pos 0 ≤ℤ int_bit_or w128 v w) × (int_bit_or w128 v w <ℤ pos (2 ^ k))
or_below k (pos n) (pos m) few v_up v_less w_up w_less =
    let less = or_lt k n m (omega (arith, ints)) (omega (arith, ints)) in
    let most = pow_up k 127 few in
    let is = to_z_pos w128 (bit_or n m) (omega arith) in
    (omega (arith, ints), omega (arith, ints))
or_below k (negsuc n) w few v_up v_less w_up w_less = absurd (omega (arith, ints))
or_below k (pos n) (negsuc m) few v_up v_less w_up w_less = absurd (omega (arith, ints))

pub xor_below : (k : ℕ) (v w : ℤ) → k ≤ 127 → pos 0 ≤ℤ v → v <ℤ pos (2 ^ k) → pos 0 ≤ℤ w → w <ℤ pos (2 ^ k) → (pos 0 ≤ℤ int_bit_xor w128 v w) × (int_bit_xor w128 v w <ℤ pos (2 ^ k))
xor_below k (pos n) (pos m) few v_up v_less w_up w_less =
    let less = xor_lt k n m (omega (arith, ints)) (omega (arith, ints)) in
    let most = pow_up k 127 few in
    let is = to_z_pos w128 (bit_xor n m) (omega arith) in
    (omega (arith, ints), omega (arith, ints))
xor_below k (negsuc n) w few v_up v_less w_up w_less = absurd (omega (arith, ints))
xor_below k (pos n) (negsuc m) few v_up v_less w_up w_less = absurd (omega (arith, ints))

-- an operation that keeps numbers of k bits, and numbers of a signed type
module _ (f : ℤ → ℤ → ℤ)
    (below : (k : ℕ) (v w : ℤ) → k ≤ 127 → pos 0 ≤ℤ v → v <ℤ pos (2 ^ k) → pos 0 ≤ℤ w → w <ℤ pos (2 ^ k) → (pos 0 ≤ℤ f v w) × (f v w <ℤ pos (2 ^ k)))
    (kept : (t : IntType) (v w : ℤ) → IsIntType t → t.signed ≡ true → IsOfType t v → IsOfType t w → IsOfType t (f v w)) where
  pub of_type : (t : IntType) (v w : ℤ) → IsIntType t → IsOfType t v → IsOfType t w → IsOfType t (f v w)
  of_type t v w is v_of w_of = by (sign_of t)
    where
      by : (t.signed ≡ true) ⊎ (t.signed ≡ false) → IsOfType t (f v w)
      by (inl kind) = kept t v w is kind v_of w_of
      by (inr kind) =
          let first = least_unsigned t kind in
          let last = greatest_unsigned t kind in
          let some = pow_pos t.bits in
          let size = (small t is).few_bits in
          let v_low = v_of.0 in
          let v_high = v_of.1 in
          let w_low = w_of.0 in
          let w_high = w_of.1 in
          let ends = below t.bits v w (omega arith) (omega (arith, ints)) (omega (arith, ints)) (omega (arith, ints)) (omega (arith, ints)) in
          (omega (arith, ints), omega (arith, ints))

or_kept : (t : IntType) (v w : ℤ) → IsIntType t → t.signed ≡ true → IsOfType t v → IsOfType t w → IsOfType t (int_bit_or w128 v w)
or_kept t v w is kind v_of w_of = kept_of_type max t v w (int_bit_or w128 v w) kind v_of w_of (or_is v w (fits_of_type t v is v_of) (fits_of_type t w is w_of))

xor_kept : (t : IntType) (v w : ℤ) → IsIntType t → t.signed ≡ true → IsOfType t v → IsOfType t w → IsOfType t (int_bit_xor w128 v w)
xor_kept t v w is kind v_of w_of = kept_of_type (λ x y. (x + y) % 2) t v w (int_bit_xor w128 v w) kind v_of w_of (xor_is v w (fits_of_type t v is v_of) (fits_of_type t w is w_of))

pub or_of_type : (t : IntType) (v w : ℤ) → IsIntType t → IsOfType t v → IsOfType t w → IsOfType t (int_bit_or w128 v w)
or_of_type = of_type (int_bit_or w128) or_below or_kept

pub xor_of_type : (t : IntType) (v w : ℤ) → IsIntType t → IsOfType t v → IsOfType t w → IsOfType t (int_bit_xor w128 v w)
xor_of_type = of_type (int_bit_xor w128) xor_below xor_kept
