-- How many bits hold a number that isn't negative.
use Rattle.std.proofs.Common.{◌≡◌, ◌≤◌, ◌+◌, ◌-◌, ◌^◌, ℕ, true, false, arith, refl, inl, inr, FitsSigned}
use Rattle.std.specs.Prelude.{ℤ, pos, negsuc, ◌≤ℤ◌, ◌<ℤ◌, ◌+ℤ◌, ◌⊎◌}
use Rattle.std.specs.Int.{w128, leading_zeros}
use Rattle.std.proofs.lemmas.Int.{ints}
use Rattle.std.proofs.lemmas.Bool.{cases_lt}
use Rattle.std.proofs.lemmas.Nat.{pow_pos, pow-add, leading_length}
use Rattle.po_arith.specs.declared.int_type.IntType.{IntType}
use Rattle.po_arith.specs.Types.{IsIntType, greatest}
use Rattle.po_arith.specs.Bits.{bits_of, filled}
use Rattle.po_arith.proofs.Powers.{pow_up, few_enough}
use Rattle.po_arith.proofs.Sizes.{small, fits_between, sign_of}

-- as many bits as a number needs hold it, and one bit fewer doesn't
pub filled_holds : (v : ℤ) → FitsSigned w128 v → pos 0 ≤ℤ v → (v <ℤ pos (2 ^ bits_of v)) × (pos (2 ^ bits_of v) ≤ℤ (v +ℤ v +ℤ pos 1))
filled_holds (pos n) fits some =
    let size = fits.sfits in
    let found = leading_length 128 n (omega arith) in
    let same : 128 - leading_zeros w128 n ≡ found.0 = omega (arith, found.1) in
    let held = found.2 in
    let least = found.3 in
    rw same (omega (arith, ints), omega (arith, ints))
filled_holds (negsuc n) fits some = absurd (omega (arith, ints))

pub bits_few : (v : ℤ) → pos 0 ≤ℤ v → v <ℤ pos (2 ^ 64) → bits_of v ≤ 100
bits_few v some less = few_enough (bits_of v) v less (filled_holds v (fits_between v (omega (arith, ints)) less) some).1

-- as many bits as a number needs are no more than k, where k bits hold it
pub bits_least : (v : ℤ) (k : ℕ) → pos 0 ≤ℤ v → v <ℤ pos (2 ^ 64) → v <ℤ pos (2 ^ k) → bits_of v ≤ k
bits_least v k some less held = elim (cases_lt k (bits_of v)) [
  | inr fewer ↦ fewer
  | inl more ↦
      let least = (filled_holds v (fits_between v (omega (arith, ints)) less) some).1 in
      let twice = pow_up (k + 1) (bits_of v) (omega arith) in
      let double = pow-add 2 k 1 in
      absurd (omega (arith, ints))
]

pub filled_up : (v w : ℤ) → pos 0 ≤ℤ v → v ≤ℤ w → w <ℤ pos (2 ^ 64) → filled v ≤ℤ filled w
filled_up v w some up less =
    let held = (filled_holds w (fits_between w (omega (arith, ints)) less) (omega (arith, ints))).0 in
    let fewer = pow_up (bits_of v) (bits_of w) (bits_least v (bits_of w) some (omega (arith, ints)) (omega (arith, ints))) in
    omega (arith, ints)

pub filled_of : (t : IntType) (v : ℤ) → IsIntType t → pos 0 ≤ℤ v → v ≤ℤ greatest t → filled v ≤ℤ greatest t
filled_of t v is some below = by (sign_of t)
  where
    less : v <ℤ pos (2 ^ 64)
    less = let most = (small t is).high in omega (arith, ints)

    under : (k : ℕ) → greatest t ≡ pos (2 ^ k - 1) → filled v ≤ℤ greatest t
    under k last =
        let one = pow_pos k in
        let fewer = pow_up (bits_of v) k (bits_least v k some less (omega (arith, ints))) in
        omega (arith, ints)

    by : (t.signed ≡ true) ⊎ (t.signed ≡ false) → filled v ≤ℤ greatest t
    by (inl kind) = under (t.bits - 1) (rw kind refl)
    by (inr kind) = under t.bits (rw kind refl)
