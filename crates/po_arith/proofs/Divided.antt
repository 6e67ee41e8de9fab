-- Quotient and remainder of C99.
use Rattle.std.proofs.Common.{◌≡◌, ◌<◌, ℕ, zero, suc, arith, sym, refl, ◌∙◌}
use Rattle.std.specs.Prelude.{ℤ, ◌≢◌, ◌<ℤ◌, ◌+ℤ◌, pos, negsuc}
use Rattle.std.specs.Int.RustNames.{int_div, int_rem, unsigned_abs}
use Rattle.std.proofs.lemmas.Int.{ints, quot-rem, rem_below}
use Rattle.std.proofs.Math.IntN.{*ℤ-negsuc}
use Rattle.po_arith.specs.Division.{AreOnOneSide, IsDivided}
use Rattle.po_arith.proofs.Products.{same_rest}

some : (b : ℤ) → b ≢ pos 0 → 0 < unsigned_abs b
some (pos zero) not_zero = absurd (not_zero refl)
some (pos (suc n)) not_zero = omega arith
some (negsuc n) not_zero = omega arith

side : (a b : ℤ) → AreOnOneSide a (int_rem a b)
side (pos zero) b = (λ h. omega (arith, ints), λ h. omega (arith, ints))
side (pos (suc n)) b = (λ h. omega (arith, ints), λ h. absurd (omega (arith, ints)))
side (negsuc n) b = (λ h. absurd (omega (arith, ints)), λ h. omega (arith, ints))

pub divided : (a b : ℤ) → b ≢ pos 0 → IsDivided a b (int_div a b) (int_rem a b)
divided a b not_zero = record { parts = sym (quot-rem a b); smaller = rem_below a b (some b not_zero); side = side a b }

-- two remainders of one number differ by less than the divisor
near : (a r s : ℤ) (m : ℕ) → unsigned_abs r < m → unsigned_abs s < m → AreOnOneSide a r → AreOnOneSide a s → (r <ℤ (s +ℤ pos m)) × (s <ℤ (r +ℤ pos m))
near (pos n) r s m r_small s_small r_side s_side =
    let r_up = r_side.0 (omega (arith, ints)) in
    let s_up = s_side.0 (omega (arith, ints)) in
    (omega (arith, ints), omega (arith, ints))
near (negsuc n) r s m r_small s_small r_side s_side =
    let r_down = r_side.1 (omega (arith, ints)) in
    let s_down = s_side.1 (omega (arith, ints)) in
    (omega (arith, ints), omega (arith, ints))

pub one_division : (a b q r p s : ℤ) → IsDivided a b q r → IsDivided a b p s → (q ≡ p) × (r ≡ s)
one_division a (pos m) q r p s first second =
    let close = near a r s m first.smaller second.smaller first.side second.side in
    same_rest m q p r s (sym first.parts ∙ second.parts) close.0 close.1
one_division a (negsuc n) q r p s first second =
    let close = near a r s (suc n) first.smaller second.smaller first.side second.side in
    let q_turned = *ℤ-negsuc q n in
    let p_turned = *ℤ-negsuc p n in
    let first_parts = first.parts in
    let second_parts = second.parts in
    let turned = same_rest (suc n) p q r s (omega (arith, ints)) close.0 close.1 in
    (sym turned.0, turned.1)
