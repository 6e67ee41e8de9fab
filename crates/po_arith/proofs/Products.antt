-- Multiples of a number, and what is left beside one.
use Rattle.std.proofs.Common.{◌≡◌, ◌≤◌, ℕ, zero, suc, arith, sym, refl}
use Rattle.std.specs.Prelude.{ℤ, ◌≤ℤ◌, ◌<ℤ◌, ◌+ℤ◌, ◌*ℤ◌, pos, negsuc}
use Rattle.std.proofs.lemmas.Int.{ints, by_lt_z}
use Rattle.std.proofs.Math.Nat.{mul-le-mul_right}
use Rattle.std.proofs.Math.IntN.{pos-*ℤ-pos, negsuc-*ℤ-pos, suc_ℤ, suc_ℤ-*ℤ}

-- products by one natural number are ordered as the other factors
pub times_up : (m : ℕ) (a b : ℤ) → a ≤ℤ b → (a *ℤ pos m) ≤ℤ (b *ℤ pos m)
times_up m (pos a) (pos b) below =
    let natural : a ≤ b = omega (arith, ints) in
    rw (pos-*ℤ-pos a m, pos-*ℤ-pos b m) (let up = mul-le-mul_right m natural in omega (arith, ints))
times_up m (pos a) (negsuc b) below = absurd (omega (arith, ints))
times_up m (negsuc a) (pos b) below = rw (negsuc-*ℤ-pos a m, pos-*ℤ-pos b m) (omega (arith, ints))
times_up m (negsuc a) (negsuc b) below =
    let natural : suc b ≤ suc a = omega (arith, ints) in
    rw (negsuc-*ℤ-pos a m, negsuc-*ℤ-pos b m) (let up = mul-le-mul_right m natural in omega (arith, ints))

next : (k : ℤ) → k +ℤ pos 1 ≡ suc_ℤ k
next (pos n) = omega (arith, ints)
next (negsuc zero) = refl
next (negsuc (suc n)) = omega (arith, ints)

pub one_more : (m : ℕ) (k : ℤ) → (k +ℤ pos 1) *ℤ pos m ≡ k *ℤ pos m +ℤ pos m
one_more m k = rw (next k) (suc_ℤ-*ℤ k (pos m))

-- a greater factor gives a product that is greater by the other factor at least
pub apart : (m : ℕ) (k j : ℤ) → k <ℤ j → (k *ℤ pos m +ℤ pos m) ≤ℤ (j *ℤ pos m)
apart m k j less = rw (sym (one_more m k)) (times_up m (k +ℤ pos 1) j (omega (arith, ints)))

-- what is left beside multiples of m and differs by less than m is the same
pub same_rest : (m : ℕ) (k j r s : ℤ) → k *ℤ pos m +ℤ r ≡ j *ℤ pos m +ℤ s → r <ℤ (s +ℤ pos m) → s <ℤ (r +ℤ pos m) → (k ≡ j) × (r ≡ s)
same_rest m k j r s same r_near s_near =
    by_lt_z k j
    (λ less. let far = apart m k j less in absurd (omega (arith, ints)))
    (λ k_up. by_lt_z j k
    (λ less. let far = apart m j k less in absurd (omega (arith, ints)))
    (λ j_up.
    let equal : k ≡ j = omega (arith, ints) in
    let down = times_up m k j j_up in
    let up = times_up m j k k_up in
    (equal, omega (arith, ints))))
