-- Numbers that differ by multiples of a power of two.
use Rattle.std.proofs.Common.{◌≡◌, ◌≤◌, ◌+◌, ◌*◌, ◌-◌, ◌/◌, ◌%◌, ◌^◌, ℕ, arith, ap, subst, ◌∙◌}
use Rattle.std.specs.Prelude.{ℤ, pos, neg_ℤ, ◌+ℤ◌, ◌*ℤ◌}
use Rattle.std.proofs.lemmas.Int.{ints}
use Rattle.std.proofs.lemmas.Nat.{pow-add, div-add-mod'}
use Rattle.std.proofs.Math.IntN.{pos-*ℤ-pos, zero-*ℤ}
use Rattle.po_lists.proofs.Integers.{distributes, times_parts}
use Rattle.po_arith.specs.Types.{AreCongruent}

pub through : (m : ℕ) (v w u : ℤ) → AreCongruent m v w → AreCongruent m w u → AreCongruent m v u
through m v w u (k, one) (j, other) = (j +ℤ k, rw (distributes j k (pos m)) (omega (arith, ints)))

pub flipped : (m : ℕ) (v w : ℤ) → AreCongruent m v w → AreCongruent m w v
flipped m v w (k, same) =
    let none : k +ℤ neg_ℤ k ≡ pos 0 = omega (arith, ints) in
    let both : pos 0 *ℤ pos m ≡ k *ℤ pos m +ℤ neg_ℤ k *ℤ pos m = subst (λ z. z *ℤ pos m ≡ k *ℤ pos m +ℤ neg_ℤ k *ℤ pos m) none (distributes k (neg_ℤ k) (pos m)) in
    let zero_times : pos 0 *ℤ pos m ≡ pos 0 = zero-*ℤ (pos m) in
    (neg_ℤ k, omega (arith, ints))

-- what differs by multiples of the greater power differs by multiples of the lesser
pub coarser : (low high : ℕ) (v w : ℤ) → low ≤ high → AreCongruent (2 ^ high) v w → AreCongruent (2 ^ low) v w
coarser low high v w less (k, same) =
    let split : high ≡ (high - low) + low = omega arith in
    let product : 2 ^ high ≡ 2 ^ (high - low) * 2 ^ low = ap (λ n. 2 ^ n) split ∙ pow-add 2 (high - low) low in
    (k *ℤ pos (2 ^ (high - low)), rw (← times_parts k (2 ^ (high - low)) (2 ^ low), ← product) same)

pub low_rest : (n m : ℕ) → AreCongruent m (pos n) (pos (n % m))
low_rest n m = let whole = div-add-mod' n m in let product = pos-*ℤ-pos (n / m) m in (pos (n / m), omega (arith, ints))
