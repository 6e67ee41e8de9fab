-- Products of integers.
use Rattle.std.proofs.Common.{◌≡◌, ℕ, zero, suc, ◌+◌, ◌*◌, refl, sym, ap, ◌∙◌, arith}
use Rattle.std.specs.Prelude.{ℤ, pos, negsuc, neg_ℤ, ◌+ℤ◌, ◌*ℤ◌}
use Rattle.std.proofs.lemmas.Int.{ints}
use Rattle.std.proofs.Math.Nat.{mul_assoc}
use Rattle.std.proofs.Math.IntN.{*ℤ_comm, *ℤ-negsuc, *ℤ-zero, neg_ℤ-neg_ℤ, suc_ℤ-*ℤ}
use borrow.Author.Differences.{up, down, same_in, product_is}

pub once : (z : ℤ) → pos 1 *ℤ z ≡ z
once (pos n) = omega (arith, ints)
once (negsuc n) = omega (arith, ints)

pub negative_times : (n m : ℕ) → neg_ℤ (pos n) *ℤ pos m ≡ neg_ℤ (pos (n * m))
negative_times zero m = let none : 0 * m ≡ 0 = omega arith in rw none refl
negative_times (suc n) m = refl

pub times_parts : (z : ℤ) (n m : ℕ) → z *ℤ pos (n * m) ≡ (z *ℤ pos n) *ℤ pos m
times_parts (pos a) n m = ap pos (sym (mul_assoc a n m))
times_parts (negsuc a) n m = ap (λ k. neg_ℤ (pos k)) (sym (mul_assoc (suc a) n m)) ∙ sym (negative_times (suc a * n) m)

times_suc : (z : ℤ) (n : ℕ) → z *ℤ pos (suc n) ≡ (z *ℤ pos n) +ℤ z
times_suc z n = *ℤ_comm z (pos (suc n)) ∙ suc_ℤ-*ℤ (pos n) z ∙ ap (λ k. k +ℤ z) (*ℤ_comm (pos n) z)

sum_times : (a b : ℤ) (n : ℕ) → (a +ℤ b) *ℤ pos n ≡ (a *ℤ pos n) +ℤ (b *ℤ pos n)
sum_times a b zero = *ℤ-zero (a +ℤ b) ∙ sym (ap (λ k. k +ℤ (b *ℤ pos 0)) (*ℤ-zero a) ∙ ap (λ k. pos 0 +ℤ k) (*ℤ-zero b))
sum_times a b (suc n) =
    let sum = times_suc (a +ℤ b) n in
    let first = times_suc a n in
    let second = times_suc b n in
    let before = sum_times a b n in
    omega (arith, ints)

pub distributes : (a b c : ℤ) → (a +ℤ b) *ℤ c ≡ a *ℤ c +ℤ b *ℤ c
distributes a b (pos m) = sum_times a b m
distributes a b (negsuc m) =
    let first = *ℤ-negsuc a m in
    let second = *ℤ-negsuc b m in
    let both = *ℤ-negsuc (a +ℤ b) m in
    let sum = sum_times a b (suc m) in
    omega (arith, ints)

pub distributes_over : (c a b : ℤ) → c *ℤ (a +ℤ b) ≡ c *ℤ a +ℤ c *ℤ b
distributes_over c a b =
    let both = *ℤ_comm c (a +ℤ b) in
    let first = *ℤ_comm c a in
    let second = *ℤ_comm c b in
    let sum = distributes a b c in
    omega (arith, ints)

pub regrouped : (a b c : ℤ) → (a *ℤ b) *ℤ c ≡ a *ℤ (b *ℤ c)
regrouped a b c =
    let ab = product_is a b in
    let bc = product_is b c in
    let by = λ (k : ℕ) (m n : ℕ) (e : m ≡ n). ap (λ x. x * k) e in
    let left = product_is (a *ℤ b) c in
    let right = product_is a (b *ℤ c) in
    let ups : up ((a *ℤ b) *ℤ c) ≡ up (a *ℤ (b *ℤ c)) = omega (arith, by (up c) _ _ ab.0, by (down c) _ _ ab.1, by (up a) _ _ bc.0, by (down a) _ _ bc.1) in
    let downs : down ((a *ℤ b) *ℤ c) ≡ down (a *ℤ (b *ℤ c)) = omega (arith, by (down c) _ _ ab.0, by (up c) _ _ ab.1, by (down a) _ _ bc.0, by (up a) _ _ bc.1) in
    same_in _ _ (λ i. ups i + sym downs i)

pub times_neg : (a k : ℤ) → a *ℤ neg_ℤ k ≡ neg_ℤ (a *ℤ k)
times_neg a (pos zero) = rw *ℤ-zero refl
times_neg a (pos (suc n)) = *ℤ-negsuc a n
times_neg a (negsuc n) = rw (*ℤ-negsuc a n) (sym (neg_ℤ-neg_ℤ _))
