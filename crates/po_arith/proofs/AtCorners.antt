-- Results between those at the corners of two ranges.
use Rattle.std.proofs.Common.{◌≡◌, ◌≤◌, ◌<◌, ◌/◌, ◌^◌, ℕ, zero, suc, arith, sym, refl, inl, inr}
use Rattle.std.specs.Prelude.{ℤ, pos, negsuc, neg_ℤ, ◌≤ℤ◌, ◌<ℤ◌, ◌*ℤ◌, ◌⊎◌, Some, int_div, unsigned_abs}
use Rattle.std.specs.Int.{int_min, int_max, int_shr}
use Rattle.std.proofs.lemmas.Int.{ints, clamps}
use Rattle.std.proofs.lemmas.Nat.{pow_pos}
use Rattle.std.proofs.Math.Nat.{mul-le-mul_left, div-mul-le_self, le-div_iff_mul-le}
use Rattle.std.proofs.Math.IntN.{neg_ℤ-neg_ℤ, *ℤ_comm, *ℤ-negsuc, *ℤ-zero}
use Rattle.po_arith.specs.declared.range.Range.{Range}
use Rattle.po_arith.specs.Ranges.{Spans, IsPart, corners, shifted_down}
use Rattle.po_arith.proofs.Products.{times_up as times_natural}
use Rattle.po_arith.proofs.Powers.{pow_up}

-- between two numbers, in either order
pub record Between (x y v : ℤ) : Type 0 where
  pub low : int_min x y ≤ℤ v
  pub high : v ≤ℤ int_max x y

up : (x y v : ℤ) → x ≤ℤ v → v ≤ℤ y → Between x y v
up x y v low high = record { low = omega (arith, ints, clamps); high = omega (arith, ints, clamps) }

down : (x y v : ℤ) → y ≤ℤ v → v ≤ℤ x → Between x y v
down x y v low high = record { low = omega (arith, ints, clamps); high = omega (arith, ints, clamps) }

-- what lies between two numbers that lie between pairs lies between all four
pub hull_of_lines : (p q u v x y z : ℤ) → Between p q x → Between u v y → Between x y z → Spans (Some (corners p q u v)) z
hull_of_lines p q u v x y z first second third = (omega (arith, ints, clamps), omega (arith, ints, clamps))

-- an operation that goes one way in each of its numbers, where the second is of a kind without gaps
pub record GoesOneWay (f : ℤ → ℤ → ℤ) (P : ℤ → Type 0) : Type 0 where
  pub between : (c d w : ℤ) → P c → P d → c ≤ℤ w → w ≤ℤ d → P w
  pub first : (a b v w : ℤ) → P w → a ≤ℤ v → v ≤ℤ b → Between (f a w) (f b w) (f v w)
  pub second : (v c d w : ℤ) → P c → P d → c ≤ℤ w → w ≤ℤ d → Between (f v c) (f v d) (f v w)

module _ (f : ℤ → ℤ → ℤ) (P : ℤ → Type 0) (law : GoesOneWay f P) where
  abbrev pub at_corners : Range → Range → Range
  at_corners r s = corners (f r.lo s.lo) (f r.lo s.hi) (f r.hi s.lo) (f r.hi s.hi)

  pub corners_cover : (r s : Range) (v w : ℤ) → P s.lo → P s.hi → Spans (Some r) v → Spans (Some s) w → Spans (Some (at_corners r s)) (f v w)
  corners_cover r s v w p q v_in w_in =
      hull_of_lines _ _ _ _ (f r.lo w) (f r.hi w) (f v w)
      (law.second r.lo s.lo s.hi w p q w_in.0 w_in.1)
      (law.second r.hi s.lo s.hi w p q w_in.0 w_in.1)
      (law.first r.lo r.hi v w (law.between s.lo s.hi w p q w_in.0 w_in.1) v_in.0 v_in.1)

  pub corners_monotone : (r s u v : Range) → P v.lo → P v.hi → r.lo ≤ℤ r.hi → s.lo ≤ℤ s.hi → IsPart (Some r) (Some u) → IsPart (Some s) (Some v) → IsPart (Some (at_corners r s)) (Some (at_corners u v))
  corners_monotone r s u v p q r_up s_up r_in s_in =
      let r_low = r_in.0 in
      let r_high = r_in.1 in
      let s_low = s_in.0 in
      let s_high = s_in.1 in
      let ll = corners_cover u v r.lo s.lo p q (r_low, omega (arith, ints)) (s_low, omega (arith, ints)) in
      let lh = corners_cover u v r.lo s.hi p q (r_low, omega (arith, ints)) (omega (arith, ints), s_high) in
      let hl = corners_cover u v r.hi s.lo p q (omega (arith, ints), r_high) (s_low, omega (arith, ints)) in
      let hh = corners_cover u v r.hi s.hi p q (omega (arith, ints), r_high) (omega (arith, ints), s_high) in
      four_within _ _ _ _ _ _ ll lh hl hh
    where
      four_within : (p q u v low high : ℤ) → (low ≤ℤ p) × (p ≤ℤ high) → (low ≤ℤ q) × (q ≤ℤ high) → (low ≤ℤ u) × (u ≤ℤ high) → (low ≤ℤ v) × (v ≤ℤ high) → (low ≤ℤ int_min (int_min p q) (int_min u v)) × (int_max (int_max p q) (int_max u v) ≤ℤ high)
      four_within p q u v low high one two three four = (omega (arith, ints, clamps), omega (arith, ints, clamps))

pub sign : (k : ℤ) → (pos 0 ≤ℤ k) ⊎ (k ≤ℤ pos 0)
sign (pos n) = inl (omega (arith, ints))
sign (negsuc n) = inr (omega (arith, ints))

-- products
times_up : (k a b : ℤ) → pos 0 ≤ℤ k → a ≤ℤ b → (a *ℤ k) ≤ℤ (b *ℤ k)
times_up (pos n) a b some below = times_natural n a b below
times_up (negsuc n) a b some below = absurd (omega (arith, ints))

times_neg : (a k : ℤ) → a *ℤ neg_ℤ k ≡ neg_ℤ (a *ℤ k)
times_neg a (pos zero) = rw *ℤ-zero refl
times_neg a (pos (suc n)) = *ℤ-negsuc a n
times_neg a (negsuc n) = rw (*ℤ-negsuc a n) (sym (neg_ℤ-neg_ℤ _))

times_down : (k a b : ℤ) → k ≤ℤ pos 0 → a ≤ℤ b → (b *ℤ k) ≤ℤ (a *ℤ k)
times_down k a b none below =
    let turned = times_up (neg_ℤ k) a b (omega (arith, ints)) below in
    let at_a = times_neg a k in
    let at_b = times_neg b k in
    omega (arith, ints)

times_line : (a b v k : ℤ) → a ≤ℤ v → v ≤ℤ b → Between (a *ℤ k) (b *ℤ k) (v *ℤ k)
times_line a b v k low high =
    elim (sign k) [
      | inl some ↦ up _ _ _ (times_up k a v some low) (times_up k v b some high)
      | inr none ↦ down _ _ _ (times_down k v b none high) (times_down k a v none low)
    ]

abbrev pub IsAny : ℤ → Type 0
IsAny w = Unit {0}

pub products_go : GoesOneWay (λ v w. v *ℤ w) IsAny
products_go = record {
  between = λ c d w p q low high. tt;
  first = λ a b v w p low high. times_line a b v w low high;
  second = λ v c d w p q low high. rw (*ℤ_comm v c, *ℤ_comm v d, *ℤ_comm v w) (times_line c d w v low high);
}

-- quotients
div_up : (k a b : ℕ) → 0 < k → a ≤ b → a / k ≤ b / k
div_up k a b some below = (le-div_iff_mul-le some).1 (let rest = div-mul-le_self a k in omega arith)

div_down : (k j a : ℕ) → 0 < k → k ≤ j → a / j ≤ a / k
div_down k j a some below = (le-div_iff_mul-le some).1 (let rest = div-mul-le_self a j in let more = mul-le-mul_left (a / j) below in omega arith)

quotient_up : (k : ℕ) (a b : ℤ) → 0 < k → a ≤ℤ b → int_div a (pos k) ≤ℤ int_div b (pos k)
quotient_up k (pos a) (pos b) some below = let more = div_up k a b some (omega (arith, ints)) in omega (arith, ints)
quotient_up k (pos a) (negsuc b) some below = absurd (omega (arith, ints))
quotient_up k (negsuc a) (pos b) some below = omega (arith, ints)
quotient_up k (negsuc a) (negsuc b) some below = let more = div_up k (suc b) (suc a) some (omega (arith, ints)) in omega (arith, ints)

-- a greater divisor gives a quotient nearer to 0
quotient_line : (v : ℤ) (c d w : ℕ) → 0 < c → c ≤ w → w ≤ d → Between (int_div v (pos c)) (int_div v (pos d)) (int_div v (pos w))
quotient_line (pos a) c d w some low high =
    let first = div_down c w a some low in
    let second = div_down w d a (omega arith) high in
    down _ _ _ (omega (arith, ints)) (omega (arith, ints))
quotient_line (negsuc a) c d w some low high =
    let first = div_down c w (suc a) some low in
    let second = div_down w d (suc a) (omega arith) high in
    up _ _ _ (omega (arith, ints)) (omega (arith, ints))

abbrev pub IsPositive : ℤ → Type 0
IsPositive w = pos 0 <ℤ w

abbrev pub IsNegative : ℤ → Type 0
IsNegative w = w <ℤ pos 0

first_positive : (a b v w : ℤ) → IsPositive w → a ≤ℤ v → v ≤ℤ b → Between (int_div a w) (int_div b w) (int_div v w)
first_positive a b v (pos w) some low high = up _ _ _ (quotient_up w a v (omega (arith, ints)) low) (quotient_up w v b (omega (arith, ints)) high)
first_positive a b v (negsuc w) some low high = absurd (omega (arith, ints))

second_positive : (v c d w : ℤ) → IsPositive c → IsPositive d → c ≤ℤ w → w ≤ℤ d → Between (int_div v c) (int_div v d) (int_div v w)
second_positive v (pos c) (pos d) (pos w) p q low high = quotient_line v c d w (omega (arith, ints)) (omega (arith, ints)) (omega (arith, ints))
second_positive v (negsuc c) d w p q low high = absurd (omega (arith, ints))
second_positive v (pos c) (negsuc d) w p q low high = absurd (omega (arith, ints))
second_positive v (pos c) (pos d) (negsuc w) p q low high = absurd (omega (arith, ints))

pub positive_quotients_go : GoesOneWay int_div IsPositive
positive_quotients_go = record { between = λ c d w p q low high. omega (arith, ints); first = first_positive; second = second_positive }

-- by a negative divisor
turned : (v : ℤ) (n : ℕ) → int_div v (negsuc n) ≡ neg_ℤ (int_div v (pos (suc n)))
turned (pos a) n = refl
turned (negsuc a) n = sym (neg_ℤ-neg_ℤ _)

turn : (x y v : ℤ) → Between x y v → Between (neg_ℤ x) (neg_ℤ y) (neg_ℤ v)
turn x y v is = let low = is.low in let high = is.high in record { low = omega (arith, ints, clamps); high = omega (arith, ints, clamps) }

turn_order : (x y v : ℤ) → Between x y v → Between y x v
turn_order x y v is = let low = is.low in let high = is.high in record { low = omega (arith, ints, clamps); high = omega (arith, ints, clamps) }

first_negative : (a b v w : ℤ) → IsNegative w → a ≤ℤ v → v ≤ℤ b → Between (int_div a w) (int_div b w) (int_div v w)
first_negative a b v (pos w) some low high = absurd (omega (arith, ints))
first_negative a b v (negsuc w) some low high = rw (turned a w, turned b w, turned v w) (turn _ _ _ (first_positive a b v (pos (suc w)) (omega (arith, ints)) low high))

second_negative : (v c d w : ℤ) → IsNegative c → IsNegative d → c ≤ℤ w → w ≤ℤ d → Between (int_div v c) (int_div v d) (int_div v w)
second_negative v (negsuc c) (negsuc d) (negsuc w) p q low high =
    rw (turned v c, turned v d, turned v w) (turn_order _ _ _ (turn _ _ _ (quotient_line v (suc d) (suc c) (suc w) (omega arith) (omega (arith, ints)) (omega (arith, ints)))))
second_negative v (pos c) d w p q low high = absurd (omega (arith, ints))
second_negative v (negsuc c) (pos d) w p q low high = absurd (omega (arith, ints))
second_negative v (negsuc c) (negsuc d) (pos w) p q low high = absurd (omega (arith, ints))

pub negative_quotients_go : GoesOneWay int_div IsNegative
negative_quotients_go = record { between = λ c d w p q low high. omega (arith, ints); first = first_negative; second = second_negative }

-- shifts to the right
abbrev pub IsNatural : ℤ → Type 0
IsNatural w = pos 0 ≤ℤ w

shift_up : (k : ℕ) (a b : ℤ) → a ≤ℤ b → int_shr a k ≤ℤ int_shr b k
shift_up k (pos a) (pos b) below = let more = div_up (2 ^ k) a b (pow_pos k) (omega (arith, ints)) in omega (arith, ints)
shift_up k (pos a) (negsuc b) below = absurd (omega (arith, ints))
shift_up k (negsuc a) (pos b) below = omega (arith, ints)
shift_up k (negsuc a) (negsuc b) below = let more = div_up (2 ^ k) b a (pow_pos k) (omega (arith, ints)) in omega (arith, ints)

shift_line : (v : ℤ) (c d w : ℕ) → c ≤ w → w ≤ d → Between (int_shr v c) (int_shr v d) (int_shr v w)
shift_line (pos a) c d w low high =
    let first = div_down (2 ^ c) (2 ^ w) a (pow_pos c) (pow_up c w low) in
    let second = div_down (2 ^ w) (2 ^ d) a (pow_pos w) (pow_up w d high) in
    down _ _ _ (omega (arith, ints)) (omega (arith, ints))
shift_line (negsuc a) c d w low high =
    let first = div_down (2 ^ c) (2 ^ w) a (pow_pos c) (pow_up c w low) in
    let second = div_down (2 ^ w) (2 ^ d) a (pow_pos w) (pow_up w d high) in
    up _ _ _ (omega (arith, ints)) (omega (arith, ints))

second_shift : (v c d w : ℤ) → IsNatural c → IsNatural d → c ≤ℤ w → w ≤ℤ d → Between (shifted_down v c) (shifted_down v d) (shifted_down v w)
second_shift v (pos c) (pos d) (pos w) p q low high = shift_line v c d w (omega (arith, ints)) (omega (arith, ints))
second_shift v (negsuc c) d w p q low high = absurd (omega (arith, ints))
second_shift v (pos c) (negsuc d) w p q low high = absurd (omega (arith, ints))
second_shift v (pos c) (pos d) (negsuc w) p q low high = absurd (omega (arith, ints))

pub shifts_go : GoesOneWay shifted_down IsNatural
shifts_go = record {
  between = λ c d w p q low high. omega (arith, ints);
  first = λ a b v w p low high. up _ _ _ (shift_up (unsigned_abs w) a v low) (shift_up (unsigned_abs w) v b high);
  second = second_shift;
}
