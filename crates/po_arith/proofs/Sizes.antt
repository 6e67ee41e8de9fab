-- How great the numbers of the types are, and that 128 bits hold their results.
use Rattle.std.proofs.Common.{◌≡◌, ◌≤◌, ◌<◌, ◌-◌, ◌^◌, ℕ, suc, Bool, true, false, arith, refl, inl, inr, FitsSigned, lit<}
use Rattle.std.specs.Prelude.{ℤ, pos, negsuc, neg_ℤ, ◌≤ℤ◌, ◌<ℤ◌, ◌+ℤ◌, ◌-ℤ◌, ◌*ℤ◌, ◌⊎◌, int_div, unsigned_abs}
use Rattle.std.specs.Int.{w128}
use Rattle.std.proofs.lemmas.Int.{ints, fits_signed_mul}
use Rattle.std.proofs.lemmas.Nat.{pow_pos}
use Rattle.std.proofs.Math.Nat.{div-le_self}
use Rattle.po_arith.specs.declared.int_type.IntType.{IntType}
use Rattle.po_arith.specs.Types.{IsIntType, IsWidth, IsOfType, least, greatest}
use Rattle.po_arith.proofs.Powers.{pow_up}

-- the numbers of the types lie between -2 to the 63 and 2 to the 64
pub record IsNarrow (t : IntType) : Type 0 where
  pub some_bits : 0 < t.bits
  pub few_bits : t.bits ≤ 64
  pub low : neg_ℤ (pos (2 ^ 63)) ≤ℤ least t
  pub high : greatest t <ℤ pos (2 ^ 64)

few : (bits : ℕ) → IsWidth bits → (0 < bits) × (bits ≤ 64)
few bits (inl h) = (omega arith, omega arith)
few bits (inr (inl h)) = (omega arith, omega arith)
few bits (inr (inr (inl h))) = (omega arith, omega arith)
few bits (inr (inr (inr (inl h)))) = (omega arith, omega arith)
few bits (inr (inr (inr (inr h)))) = (omega arith, omega arith)

small_if : (bits : ℕ) (signed : Bool) → 0 < bits → bits ≤ 64 → IsNarrow (record { bits = bits; signed = signed })
small_if bits true some most = let half = pow_up (bits - 1) 63 (omega arith) in let one = pow_pos (bits - 1) in record { some_bits = some; few_bits = most; low = omega (arith, ints); high = omega (arith, ints) }
small_if bits false some most = let whole = pow_up bits 64 most in let one = pow_pos bits in record { some_bits = some; few_bits = most; low = omega (arith, ints); high = omega (arith, ints) }

pub small : (t : IntType) → IsIntType t → IsNarrow t
small t is = let bits = few t.bits is.width in small_if t.bits t.signed bits.0 bits.1

pub fits_between : (z : ℤ) → neg_ℤ (pos (2 ^ 64)) ≤ℤ z → z <ℤ pos (2 ^ 64) → FitsSigned w128 z
fits_between (pos n) low high = record { sfits = omega (arith, ints) }
fits_between (negsuc n) low high = record { sfits = omega (arith, ints) }

pub fits_of_type : (t : IntType) (v : ℤ) → IsIntType t → IsOfType t v → FitsSigned w128 v
fits_of_type t v is of = let s = small t is in let low = s.low in let high = s.high in fits_between v (omega (arith, ints)) (omega (arith, ints))

-- both ways of a type that is or isn't signed
pub sign_of : (t : IntType) → (t.signed ≡ true) ⊎ (t.signed ≡ false)
sign_of t = by t.signed refl
  where
    by : (b : Bool) → t.signed ≡ b → (t.signed ≡ true) ⊎ (t.signed ≡ false)
    by true kind = inl kind
    by false kind = inr kind

pub least_unsigned : (t : IntType) → t.signed ≡ false → least t ≡ pos 0
least_unsigned t kind = rw kind refl

pub greatest_unsigned : (t : IntType) → t.signed ≡ false → greatest t ≡ pos (2 ^ t.bits - 1)
greatest_unsigned t kind = rw kind refl

pub fits_wide : (z : ℤ) → neg_ℤ (pos (2 ^ 120)) ≤ℤ z → z ≤ℤ pos (2 ^ 120) → FitsSigned w128 z
fits_wide (pos n) low high = record { sfits = omega (arith, ints) }
fits_wide (negsuc n) low high = record { sfits = omega (arith, ints) }

pub quotient_fits : (v w : ℤ) → neg_ℤ (pos (2 ^ 64)) ≤ℤ v → v ≤ℤ pos (2 ^ 64) → FitsSigned w128 (int_div v w)
quotient_fits (pos a) (pos b) low high = let less = div-le_self a b in fits_wide _ (omega (arith, ints)) (omega (arith, ints))
quotient_fits (pos a) (negsuc b) low high = let less = div-le_self a (suc b) in fits_wide _ (omega (arith, ints)) (omega (arith, ints))
quotient_fits (negsuc a) (pos b) low high = let less = div-le_self (suc a) b in fits_wide _ (omega (arith, ints)) (omega (arith, ints))
quotient_fits (negsuc a) (negsuc b) low high = let less = div-le_self (suc a) (suc b) in fits_wide _ (omega (arith, ints)) (omega (arith, ints))

pub count_few : (n : ℤ) → pos 0 ≤ℤ n → n <ℤ pos 64 → unsigned_abs n ≤ 63
count_few (pos n) low high = omega (arith, ints)
count_few (negsuc n) low high = absurd (omega (arith, ints))

size_small : (v : ℤ) → pos 0 ≤ℤ v → v <ℤ pos (2 ^ 64) → unsigned_abs v ≤ 2 ^ 64 - 1
size_small (pos n) low high = omega (arith, ints)
size_small (negsuc n) low high = absurd (omega (arith, ints))

pub shifted_fits : (v n : ℤ) → pos 0 ≤ℤ v → v <ℤ pos (2 ^ 64) → pos 0 ≤ℤ n → n <ℤ pos 64 → FitsSigned w128 (v *ℤ pos (2 ^ unsigned_abs n))
shifted_fits v n low high some few =
    fits_signed_mul w128 v (pos (2 ^ unsigned_abs n)) (2 ^ 64 - 1) (2 ^ 63) (size_small v low high) (pow_up (unsigned_abs n) 63 (count_few n some few)) (lit< tt)

-- sums, differences and products of numbers of a type
pub of_type_small : (t : IntType) (v : ℤ) → IsIntType t → IsOfType t v → (neg_ℤ (pos (2 ^ 120)) ≤ℤ v) × (v ≤ℤ pos (2 ^ 120))
of_type_small t v is of =
    let s = small t is in
    let low = s.low in
    let high = s.high in
    let above = of.0 in
    let below = of.1 in
    (omega (arith, ints), omega (arith, ints))

pub sum_fits : (t : IntType) (v w : ℤ) → IsIntType t → IsOfType t v → IsOfType t w → FitsSigned w128 (v +ℤ w)
sum_fits t v w is v_of w_of =
    let s = small t is in
    let low = s.low in
    let high = s.high in
    let v_low = v_of.0 in
    let v_high = v_of.1 in
    let w_low = w_of.0 in
    let w_high = w_of.1 in
    fits_wide _ (omega (arith, ints)) (omega (arith, ints))

pub difference_fits : (t : IntType) (v w : ℤ) → IsIntType t → IsOfType t v → IsOfType t w → FitsSigned w128 (v -ℤ w)
difference_fits t v w is v_of w_of =
    let s = small t is in
    let low = s.low in
    let high = s.high in
    let v_low = v_of.0 in
    let v_high = v_of.1 in
    let w_low = w_of.0 in
    let w_high = w_of.1 in
    fits_wide _ (omega (arith, ints)) (omega (arith, ints))

size_most : (v : ℤ) → neg_ℤ (pos (2 ^ 63)) ≤ℤ v → v ≤ℤ pos (2 ^ 63) → unsigned_abs v ≤ 2 ^ 63
size_most (pos n) low high = omega (arith, ints)
size_most (negsuc n) low high = omega (arith, ints)

size_of_type : (t : IntType) (v : ℤ) → IsIntType t → t.signed ≡ true → IsOfType t v → unsigned_abs v ≤ 2 ^ 63
size_of_type t v is kind of =
    let s = small t is in
    let some = s.some_bits in
    let few = s.few_bits in
    let half = pow_up (t.bits - 1) 63 (omega arith) in
    let last : greatest t ≡ pos (2 ^ (t.bits - 1) - 1) = rw kind refl in
    let low = s.low in
    let above = of.0 in
    let below = of.1 in
    size_most v (omega (arith, ints)) (omega (arith, ints))

pub product_fits : (t : IntType) (v w : ℤ) → IsIntType t → t.signed ≡ true → IsOfType t v → IsOfType t w → FitsSigned w128 (v *ℤ w)
product_fits t v w is kind v_of w_of = fits_signed_mul w128 v w (2 ^ 63) (2 ^ 63) (size_of_type t v is kind v_of) (size_of_type t w is kind w_of) (lit< tt)
