-- Powers of two.
use Rattle.std.proofs.Common.{◌≡◌, ◌≤◌, ◌*◌, ◌%◌, ◌<◌, ◌^◌, ℕ, arith, inl, inr, to_z}
use Rattle.std.specs.Prelude.{ℤ, pos, ◌≤ℤ◌, ◌<ℤ◌, ◌+ℤ◌}
use Rattle.std.specs.Int.{w128}
use Rattle.std.proofs.lemmas.Int.{ints, to_z_pos}
use Rattle.std.proofs.lemmas.Bool.{cases_lt}
use Rattle.std.proofs.lemmas.Nat.{pow_below}
use Rattle.std.proofs.Math.Nat.{mod-eq_of_lt}

pub pow_up : (i j : ℕ) → i ≤ j → 2 ^ i ≤ 2 ^ j
pow_up i j below = elim (cases_lt i j) [
  | inl less ↦ let more = pow_below i j less in omega arith
  | inr not_less ↦ let same : i ≡ j = omega arith in rw same (omega arith)
]

-- 1 shifted to the left
pub power_is : (k : ℕ) → k ≤ 100 → to_z w128 ((1 * 2 ^ k) % 2 ^ 128) ≡ pos (2 ^ k)
power_is k few =
    let less = pow_below k 127 (omega arith) in
    let one : 1 * 2 ^ k ≡ 2 ^ k = omega arith in
    let under : 2 ^ k < 2 ^ 128 = omega arith in
    rw (one, mod-eq_of_lt under) (to_z_pos w128 (2 ^ k) less)

pub few_enough : (k : ℕ) (v : ℤ) → v <ℤ pos (2 ^ 64) → pos (2 ^ k) ≤ℤ (v +ℤ v +ℤ pos 1) → k ≤ 100
few_enough k v less least = elim (cases_lt 100 k) [
  | inl more ↦ let far = pow_up 100 k (omega arith) in absurd (omega (arith, ints))
  | inr fewer ↦ fewer
]
