-- Shifts.
use Rattle.std.proofs.Common.{◌≡◌, ◌<◌, ◌≤◌, ◌*◌, ◌/◌, ◌^◌, ℕ, zero, suc, arith, sym, refl, ap, ◌∙◌, inl, inr, min, FitsSigned}
use Rattle.std.specs.Prelude.{ℤ, ◌≢◌, ◌-ℤ◌, ◌*ℤ◌, pos, negsuc}
use Rattle.std.specs.Int.{int_shr, w128}
use Rattle.std.proofs.lemmas.Int.{ints}
use Rattle.std.proofs.lemmas.Nat.{div-add-mod', mod_below, pow_pos, pow_below, shr_le}
use Rattle.std.proofs.Math.Nat.{mul-le-mul_right, suc-mul, div-eq_of_lt}
use Rattle.std.proofs.lemmas.Bool.{cases_lt}
use Rattle.po_arith.specs.Types.{IsSmall}
use Rattle.po_arith.specs.Shifts.{IsShiftedRight, shifted_left}
use Rattle.po_arith.proofs.Products.{one_more, same_rest}

pub one_shifted : (v q p : ℤ) (n : ℕ) → IsShiftedRight v n q → IsShiftedRight v n p → q ≡ p
one_shifted v q p n q_is p_is =
    let q_next = one_more (2 ^ n) q in
    let p_next = one_more (2 ^ n) p in
    (same_rest (2 ^ n) q p (v -ℤ q *ℤ pos (2 ^ n)) (v -ℤ p *ℤ pos (2 ^ n)) (omega (arith, ints)) (omega (arith, ints)) (omega (arith, ints))).0

-- a shift that copies the sign rounds down
pub shifted : (v : ℤ) (n : ℕ) → IsShiftedRight v n (int_shr v n)
shifted (pos a) n =
    let whole = div-add-mod' a (2 ^ n) in
    let low = mod_below a (2 ^ n) (pow_pos n) in
    let more = one_more (2 ^ n) (pos (a / 2 ^ n)) in
    (omega (arith, ints), omega (arith, ints))
shifted (negsuc a) n =
    let whole = div-add-mod' a (2 ^ n) in
    let low = mod_below a (2 ^ n) (pow_pos n) in
    let next = suc-mul (a / 2 ^ n) (2 ^ n) in
    let more = one_more (2 ^ n) (negsuc (a / 2 ^ n)) in
    (omega (arith, ints), omega (arith, ints))

-- past 127 places nothing is left but the sign
emptied : (a n : ℕ) → a < 2 ^ 127 → a / 2 ^ min n 127 ≡ a / 2 ^ n
emptied a n small = elim (cases_lt n 128) [
  | inl near ↦ ap (λ k. a / 2 ^ k) (omega arith)
  | inr far ↦
      let least : min n 127 ≡ 127 = omega arith in
      let longer = pow_below 127 n (omega arith) in
      ap (λ k. a / 2 ^ k) least ∙ div-eq_of_lt small ∙ sym (div-eq_of_lt (omega arith))
]

pub capped : (v : ℤ) (n : ℕ) → FitsSigned w128 v → int_shr v (min n 127) ≡ int_shr v n
capped (pos a) n fits = ap pos (emptied a n fits.sfits)
capped (negsuc a) n fits = ap negsuc (emptied a n fits.sfits)

pub shr_fits : (v : ℤ) (n : ℕ) → FitsSigned w128 v → FitsSigned w128 (int_shr v n)
shr_fits (pos a) n fits = let less = shr_le a n in let small = fits.sfits in record { sfits = omega arith }
shr_fits (negsuc a) n fits = let less = shr_le a n in let small = fits.sfits in record { sfits = omega arith }

short_for : (a n : ℕ) → 0 < a → a * 2 ^ n ≤ 2 ^ 120 → n < 128
short_for a n some fits = elim (cases_lt n 128) [
  | inl near ↦ near
  | inr far ↦
      let longer = pow_below 120 n (omega arith) in
      let more = mul-le-mul_right (2 ^ n) some in
      absurd (omega arith)
]

-- a number that isn't 0 is shifted by few places where the result is small
pub short : (v : ℤ) (n : ℕ) → v ≢ pos 0 → IsSmall (shifted_left v n) → n < 128
short (pos zero) n some small = absurd (some refl)
short (pos (suc a)) n some small = short_for (suc a) n (omega arith) (let high = small.1 in omega (arith, ints))
short (negsuc a) n some small = short_for (suc a) n (omega arith) (let low = small.0 in omega (arith, ints))
