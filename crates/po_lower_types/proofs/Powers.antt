-- Numbers below powers of 2.
use Rattle.std.proofs.Common.{◌≡◌, ℕ, ◌<◌, ◌≤◌, zero, suc, ◌^◌, ◌/◌, ◌↔◌, Bool, true, false, nat_lt, nat_eq, refl, ◌∙◌, arith}
use Rattle.std.proofs.lemmas.Nat.{pow_pos}
use Rattle.std.proofs.Math.Nat.{div-lt_iff_lt-mul}
use Rattle.std.proofs.Math.Pow.{pow_mono}

is_less : (n m : ℕ) → n < m → true ≡ nat_lt n m
is_less n m h = grind arith

not_less : (n m : ℕ) → m ≤ n → false ≡ nat_lt n m
not_less n m h = grind arith

pub below_high_power : (n k : ℕ) → n < 2 ^ 128 → 128 ≤ k → true ≡ nat_lt n (2 ^ k)
below_high_power n k small high = let more = pow_mono high in is_less n (2 ^ k) (omega (arith, small, more))

quotient_below : (n k : ℕ) → n < 2 ^ k → n / 2 ^ k < 1
quotient_below n k h = let both = div-lt_iff_lt-mul {k = 2 ^ k} {x = n} {y = 1} (pow_pos k) in both.1 (omega (arith, h))

below_quotient : (n k : ℕ) → n / 2 ^ k < 1 → n < 2 ^ k
below_quotient n k h = let both = div-lt_iff_lt-mul {k = 2 ^ k} {x = n} {y = 1} (pow_pos k) in let less = both.0 h in omega (arith, less)

one_more : (q : ℕ) → nat_eq (suc q) 0 ≡ false
one_more q = grind arith

at_most : (n m : ℕ) → (n < m → ⊥) → m ≤ n
at_most n m h = grind arith

pub quotient_tells : (n k : ℕ) → nat_eq (n / 2 ^ k) 0 ≡ nat_lt n (2 ^ k)
quotient_tells n k = at_quotient (n / 2 ^ k) refl
  where
    at_quotient : (q : ℕ) → n / 2 ^ k ≡ q → nat_eq q 0 ≡ nat_lt n (2 ^ k)
    at_quotient zero e = is_less n (2 ^ k) (below_quotient n k (omega (arith, e)))
    at_quotient (suc q) e = one_more q ∙ not_less n (2 ^ k) (at_most n (2 ^ k) (λ h. let less = quotient_below n k h in omega (arith, e, less)))
