-- The bits of a whole number, and those of the 128 that the machine keeps of it.
use Rattle.std.proofs.Common.{◌≡◌, ◌<◌, ◌≤◌, ◌+◌, ◌-◌, ◌%◌, ◌^◌, ℕ, zero, suc, arith, sym, refl, ap, ◌∙◌, max, min, FitsSigned, to_z, of_z, inl, inr}
use Rattle.std.specs.Prelude.{ℤ, pos, negsuc}
use Rattle.std.specs.Int.{bit_at, w128}
use Rattle.std.specs.Int.RustNames.{bit_and, bit_or, bit_xor}
use Rattle.std.proofs.Math.Facts.{Fits-of_z, Fits-lt-pow, Fits-bits, sfits_to_z}
use Rattle.std.proofs.lemmas.Bool.{cases_lt}
use Rattle.std.proofs.lemmas.Int.{of_z-to_z}
use Rattle.std.proofs.lemmas.Nat.{and_le_l, or_lt, xor_lt}
use Rattle.std.proofs.lemmas.Nat.Bits.{bit_at_not, bit_at_above, bit_at-lt, bit_at_and, bit_at_or, bit_at_xor, same_from_bits}
use Rattle.std.proofs.Math.Nat.{pow-suc}
use Rattle.po_arith.specs.Bits.{bit, IsAnd, IsOr, IsXor}

low_bits : (v : ℤ) (i : ℕ) → FitsSigned w128 v → i < 128 → bit v i ≡ bit_at (of_z w128 v) i
low_bits (pos n) i fits below = refl
low_bits (negsuc n) i fits below =
    let small = fits.sfits in
    let turned = bit_at_not w128 n i (omega arith) below in
    let word : 2 ^ 128 - 1 - n ≡ 2 ^ 128 - suc n = omega arith in
    sym turned ∙ ap (λ x. bit_at x i) word

-- above the sign they are all alike
high_bits : (v : ℤ) (i : ℕ) → FitsSigned w128 v → 127 ≤ i → bit v i ≡ bit v 127
high_bits (pos n) i fits above = bit_at_above n 127 i fits.sfits above ∙ sym (bit_at_above n 127 127 fits.sfits (omega arith))
high_bits (negsuc n) i fits above = ap (λ x. 1 - x) (bit_at_above n 127 i fits.sfits above ∙ sym (bit_at_above n 127 127 fits.sfits (omega arith)))

-- what is done to each bit of the machine's words is done to each bit of the numbers
module _ (op : ℕ → ℕ → ℕ) (each : ℕ → ℕ → ℕ) (bits_of : (x y i : ℕ) → bit_at (op x y) i ≡ each (bit_at x i) (bit_at y i)) where
  low : (a b : ℤ) (i : ℕ) → FitsSigned w128 a → FitsSigned w128 b → op (of_z w128 a) (of_z w128 b) < 2 ^ 128 → i < 128 → bit (to_z w128 (op (of_z w128 a) (of_z w128 b))) i ≡ each (bit a i) (bit b i)
  low a b i a_fits b_fits fits below =
      low_bits _ i (sfits_to_z (Fits-bits 128 tt fits)) below
      ∙ ap (λ x. bit_at x i) (of_z-to_z w128 _ fits)
      ∙ bits_of (of_z w128 a) (of_z w128 b) i
      ∙ ap (λ x. each x (bit_at (of_z w128 b) i)) (sym (low_bits a i a_fits below))
      ∙ ap (each (bit a i)) (sym (low_bits b i b_fits below))

  pub word_by_bits : (a b : ℤ) → FitsSigned w128 a → FitsSigned w128 b → op (of_z w128 a) (of_z w128 b) < 2 ^ 128 → (i : ℕ) → bit (to_z w128 (op (of_z w128 a) (of_z w128 b))) i ≡ each (bit a i) (bit b i)
  word_by_bits a b a_fits b_fits fits i =
      elim (cases_lt i 128) [
        | inl below ↦ low a b i a_fits b_fits fits below
        | inr above ↦
            high_bits _ i (sfits_to_z (Fits-bits 128 tt fits)) (omega arith)
            ∙ low a b 127 a_fits b_fits fits (omega arith)
            ∙ ap (λ x. each x (bit b 127)) (sym (high_bits a i a_fits (omega arith)))
            ∙ ap (each (bit a i)) (sym (high_bits b i b_fits (omega arith)))
      ]

in_word : (a : ℤ) → FitsSigned w128 a → of_z w128 a < 2 ^ 128
in_word a fits = Fits-lt-pow (Fits-of_z fits)

pub and_is : (a b : ℤ) → FitsSigned w128 a → FitsSigned w128 b → IsAnd a b (to_z w128 (bit_and (of_z w128 a) (of_z w128 b)))
and_is a b a_fits b_fits = word_by_bits bit_and min bit_at_and a b a_fits b_fits (let word = in_word a a_fits in let below = and_le_l (of_z w128 a) (of_z w128 b) in omega arith)

pub or_is : (a b : ℤ) → FitsSigned w128 a → FitsSigned w128 b → IsOr a b (to_z w128 (bit_or (of_z w128 a) (of_z w128 b)))
or_is a b a_fits b_fits = word_by_bits bit_or max bit_at_or a b a_fits b_fits (or_lt 128 _ _ (in_word a a_fits) (in_word b b_fits))

pub xor_is : (a b : ℤ) → FitsSigned w128 a → FitsSigned w128 b → IsXor a b (to_z w128 (bit_xor (of_z w128 a) (of_z w128 b)))
xor_is a b a_fits b_fits = word_by_bits bit_xor (λ x y. (x + y) % 2) bit_at_xor a b a_fits b_fits (xor_lt 128 _ _ (in_word a a_fits) (in_word b b_fits))

other_bit : (x y : ℕ) → x < 2 → y < 2 → 1 - x ≡ 1 - y → x ≡ y
other_bit x y x_bit y_bit same = omega arith

below_power : (n : ℕ) → n < 2 ^ n
below_power zero = omega arith
below_power (suc n) = let below = below_power n in let twice = pow-suc 2 n in omega arith

-- far to the left a number that isn't negative has 0, and one that is has 1
unlike : (n m : ℕ) → ((i : ℕ) → bit (pos n) i ≡ bit (negsuc m) i) → ⊥
unlike n m same =
    let n_bit = bit_at_above n n (n + m) (below_power n) (omega arith) in
    let m_bit = bit_at_above m m (n + m) (below_power m) (omega arith) in
    let both = same (n + m) in
    omega arith

pub telling : (v w : ℤ) → ((i : ℕ) → bit v i ≡ bit w i) → v ≡ w
telling (pos n) (pos m) same = ap pos (same_from_bits n m same)
telling (pos n) (negsuc m) same = absurd (unlike n m same)
telling (negsuc n) (pos m) same = absurd (unlike m n (λ i. sym (same i)))
telling (negsuc n) (negsuc m) same = ap negsuc (same_from_bits n m (λ i. other_bit _ _ (bit_at-lt n i) (bit_at-lt m i) (same i)))
