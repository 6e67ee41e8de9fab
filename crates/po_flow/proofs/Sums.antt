-- Sums over the numbers below a number.
use Rattle.std.proofs.Common.{◌≡◌, ◌≢◌, ℕ, zero, suc, ◌+◌, ◌*◌, ◌≤◌, ◌<◌, refl, ap, arith, inl, inr}
use Rattle.std.proofs.Math.Nat.{mul-le-mul_left}
use Rattle.std.proofs.lemmas.Bool.{cases_eq}
use Rattle.po_flow.specs.Counting.{sum_below}

pub sum_below-le : (k : ℕ) (g h : ℕ → ℕ) → ((n : ℕ) → n < k → g n ≤ h n) → sum_below k g ≤ sum_below k h
sum_below-le zero g h le = omega arith
sum_below-le (suc k) g h le =
    let before = sum_below-le k g h (λ n l. le n (omega arith)) in
    let here = le k (omega arith) in
    omega arith

pub sum_below-same : (k : ℕ) (g h : ℕ → ℕ) → ((n : ℕ) → n < k → g n ≡ h n) → sum_below k g ≡ sum_below k h
sum_below-same zero g h same = refl
sum_below-same (suc k) g h same =
    let before = sum_below-same k g h (λ n l. same n (omega arith)) in
    let here = same k (omega arith) in
    omega arith

pub sum_below-none : (k : ℕ) (g : ℕ → ℕ) → ((n : ℕ) → n < k → g n ≡ 0) → sum_below k g ≡ 0
sum_below-none zero g none = refl
sum_below-none (suc k) g none =
    let before = sum_below-none k g (λ n l. none n (omega arith)) in
    let here = none k (omega arith) in
    omega arith

-- two sums whose parts differ at one number only
pub sum_below-but_one : (k m : ℕ) (g h : ℕ → ℕ) → m < k → ((n : ℕ) → n ≢ m → g n ≡ h n) → sum_below k g + h m ≡ sum_below k h + g m
sum_below-but_one zero m g h l same = absurd (omega arith)
sum_below-but_one (suc k) m g h l same =
    elim (cases_eq k m) [
      | inl q ↦
          let before = sum_below-same k g h (λ n d. same n (λ w. omega arith)) in
          let one = ap g q in
          let two = ap h q in
          omega arith
      | inr d ↦
          let before = sum_below-but_one k m g h (omega arith) same in
          let here = same k d in
          omega arith
    ]

-- a constant factor
pub sum_below-times : (k c : ℕ) (g : ℕ → ℕ) → sum_below k (λ n. g n * c) ≡ sum_below k (λ n. g n * 1) * c
sum_below-times zero c g = omega arith
sum_below-times (suc k) c g = let before = sum_below-times k c g in omega arith

pub sum_below-bound : (k c : ℕ) (g : ℕ → ℕ) → ((n : ℕ) → n < k → g n ≤ c) → sum_below k (λ n. 1 * g n) ≤ k * c
sum_below-bound zero c g le = omega arith
sum_below-bound (suc k) c g le =
    let before = sum_below-bound k c g (λ n l. le n (omega arith)) in
    let here = le k (omega arith) in
    omega arith

-- one more for each unit of weight
pub sum_below-one_more : (k : ℕ) (weight g : ℕ → ℕ) → sum_below k (λ n. weight n * (1 + g n)) ≡ sum_below k (λ n. weight n * 1) + sum_below k (λ n. weight n * g n)
sum_below-one_more zero weight g = refl
sum_below-one_more (suc k) weight g = let before = sum_below-one_more k weight g in omega arith

-- what holds of each two numbers holds of their sums, with weights
pub sum_below-pays : (k : ℕ) (weight old before new after : ℕ → ℕ) → ((n : ℕ) → n < k → old n + after n ≤ new n + before n) → sum_below k (λ n. weight n * old n) + sum_below k (λ n. weight n * after n) ≤ sum_below k (λ n. weight n * new n) + sum_below k (λ n. weight n * before n)
sum_below-pays zero weight old before new after pays = omega arith
sum_below-pays (suc k) weight old before new after pays =
    let rest = sum_below-pays k weight old before new after (λ n l. pays n (omega arith)) in
    let here = mul-le-mul_left (weight k) (pays k (omega arith)) in
    omega arith
