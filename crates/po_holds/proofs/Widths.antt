-- Widths of results, at the ends of ranges.
use Rattle.std.proofs.Common.{◌≡◌, ◌≤◌, ◌<◌, ◌+◌, ◌-◌, ◌*◌, ◌%◌, ◌^◌, ℕ, zero, suc, sym, ap, ◌∙◌, subst, refl, arith, inl, inr}
use Rattle.std.specs.Prelude.{ℤ, pos, negsuc, neg_ℤ, ◌+ℤ◌, ◌-ℤ◌, ◌*ℤ◌, ◌≤ℤ◌, ◌<ℤ◌, ◌↔◌, ◌⊎◌, ◌≢◌, Bool, not, IsTrue}
use mir.Val.{to_z}
use Rattle.std.specs.Int.{int_min, int_max, w128}
use Rattle.std.proofs.lemmas.Int.{ints, clamps, by_lt_z, to_z_pos}
use Rattle.std.proofs.lemmas.Nat.{pow-add, pow_pos, pow_below}
use Rattle.std.proofs.lemmas.Bool.{cases_lt}
use Rattle.std.proofs.Math.Nat.{mul-le-mul_right, mul-le-mul_left, mod-eq_of_lt}
use Rattle.po_lists.proofs.Integers.{distributes, distributes_over, times_neg}
use Rattle.po_pred.specs.declared.pred.Over.TheVariants.{Add, Sub, Mul, Div, Shl, Neg}
use Rattle.po_arith.specs.Ranges.{range}
use Rattle.po_arith.proofs.Powers.{pow_up}
use Rattle.po_arith.proofs.RangesCover.{products_cover}
use Rattle.po_memory.specs.Blocks.{IsOfWidth, IsShifted, half}
use Rattle.po_holds.specs.declared.choosing.Numbers.{Numbers}
use Rattle.po_holds.specs.declared.over.Power.{Power}
use Rattle.po_holds.specs.Choosing.{IsOneOf, AreSome, least, greatest}
use Rattle.po_holds.specs.Over.{EachOne, EachStays, EndsStay, minus, IsPower}
use Rattle.po_holds.proofs.Sums.{tells_not}

-- 1 shifted to the left
pub one_shifted : (k : ℕ) → k ≤ 126 → to_z w128 ((1 * 2 ^ k) % 2 ^ 128) ≡ pos (2 ^ k)
one_shifted k few =
    let less = pow_below k 127 (omega arith) in
    let one : 1 * 2 ^ k ≡ 2 ^ k = omega arith in
    let under : 2 ^ k < 2 ^ 128 = omega arith in
    rw (one, mod-eq_of_lt under) (to_z_pos w128 (2 ^ k) less)

power_small : (n : ℕ) → n ≤ 126 → 2 ^ n ≤ 2 ^ 126
power_small n few = pow_up n 126 few

pub low_power : (n : ℕ) → n ≤ 126 → IsPower n (record { first = neg_ℤ (pos 1); more = pos 0; second = pos (2 ^ n) })
low_power n few =
    let small = power_small n few in
    let first : neg_ℤ (pos 1) *ℤ pos (2 ^ n) ≡ neg_ℤ (pos (2 ^ n)) = omega (arith, ints) in
    let more : pos 0 *ℤ pos (2 ^ n) ≡ pos 0 = omega (arith, ints) in
    record { value = omega (arith, ints); least = omega (arith, ints); greatest = omega (arith, ints) }

pub high_power : (n : ℕ) → 127 ≤ n → n ≤ 253 → IsPower n (record { first = neg_ℤ (pos (2 ^ 127)); more = pos 0; second = pos (2 ^ (n - 127)) })
high_power n low few =
    let small = power_small (n - 127) (omega arith) in
    let split : n ≡ 127 + (n - 127) = omega arith in
    let power : 2 ^ n ≡ 2 ^ 127 * 2 ^ (n - 127) = ap (λ k. 2 ^ k) split ∙ pow-add 2 127 (n - 127) in
    let first : neg_ℤ (pos (2 ^ 127)) *ℤ pos (2 ^ (n - 127)) ≡ neg_ℤ (pos (2 ^ 127 * 2 ^ (n - 127))) = omega (arith, ints) in
    let more : pos 0 *ℤ pos (2 ^ (n - 127)) ≡ pos 0 = omega (arith, ints) in
    record { value = rw (first, more, power) (omega (arith, ints)); least = omega (arith, ints); greatest = omega (arith, ints) }

-- the sum and half the width, as what is tested for its sign
pub width_low : (bits : ℕ) (p : Power) (a b c d e f g h : ℤ) (t : Bool) → IsPower (bits - 1) p →
    (IsTrue t ↔ ((a *ℤ b +ℤ (c *ℤ d +ℤ (e *ℤ f +ℤ (g *ℤ h +ℤ (p.first *ℤ neg_ℤ p.second +ℤ (p.more *ℤ neg_ℤ p.second +ℤ pos 0)))))) <ℤ pos 0)) →
    IsTrue (not t) ↔ (neg_ℤ (pos (half bits)) ≤ℤ (a *ℤ b +ℤ (c *ℤ d +ℤ (e *ℤ f +ℤ (g *ℤ h +ℤ pos 0)))))
width_low bits p a b c d e f g h t is tells = low (a *ℤ b) (c *ℤ d) (e *ℤ f) (g *ℤ h) (p.first *ℤ p.second) (p.more *ℤ p.second) is.value (subst (λ z. IsTrue t ↔ ((a *ℤ b +ℤ (c *ℤ d +ℤ (e *ℤ f +ℤ (g *ℤ h +ℤ (z +ℤ (neg_ℤ (p.more *ℤ p.second) +ℤ pos 0)))))) <ℤ pos 0)) (times_neg p.first p.second) (subst (λ z. IsTrue t ↔ ((a *ℤ b +ℤ (c *ℤ d +ℤ (e *ℤ f +ℤ (g *ℤ h +ℤ (p.first *ℤ neg_ℤ p.second +ℤ (z +ℤ pos 0)))))) <ℤ pos 0)) (times_neg p.more p.second) tells))
  where
    low : (k l m n x y : ℤ) → x +ℤ y ≡ minus (bits - 1) → (IsTrue t ↔ ((k +ℤ (l +ℤ (m +ℤ (n +ℤ (neg_ℤ x +ℤ (neg_ℤ y +ℤ pos 0)))))) <ℤ pos 0)) → IsTrue (not t) ↔ (neg_ℤ (pos (half bits)) ≤ℤ (k +ℤ (l +ℤ (m +ℤ (n +ℤ pos 0)))))
    low k l m n x y value sign = let both = tells_not t (k +ℤ (l +ℤ (m +ℤ (n +ℤ (neg_ℤ x +ℤ (neg_ℤ y +ℤ pos 0)))))) sign in (λ h. let up = both.0 h in omega (arith, ints), λ h. both.1 (omega (arith, ints)))

pub width_high : (bits : ℕ) (p : Power) (a b c d e f g h : ℤ) (t : Bool) → IsPower (bits - 1) p →
    (IsTrue t ↔ ((a *ℤ b +ℤ (c *ℤ d +ℤ (e *ℤ f +ℤ (g *ℤ h +ℤ (p.first *ℤ p.second +ℤ (p.more *ℤ p.second +ℤ pos 0)))))) <ℤ pos 0)) →
    IsTrue t ↔ ((a *ℤ b +ℤ (c *ℤ d +ℤ (e *ℤ f +ℤ (g *ℤ h +ℤ pos 0)))) <ℤ pos (half bits))
width_high bits p a b c d e f g h t is tells = high (a *ℤ b) (c *ℤ d) (e *ℤ f) (g *ℤ h) (p.first *ℤ p.second) (p.more *ℤ p.second) is.value tells
  where
    high : (k l m n x y : ℤ) → x +ℤ y ≡ minus (bits - 1) → (IsTrue t ↔ ((k +ℤ (l +ℤ (m +ℤ (n +ℤ (x +ℤ (y +ℤ pos 0)))))) <ℤ pos 0)) → IsTrue t ↔ ((k +ℤ (l +ℤ (m +ℤ (n +ℤ pos 0)))) <ℤ pos (half bits))
    high k l m n x y value sign = (λ h. let below = sign.0 h in omega (arith, ints), λ h. sign.1 (omega (arith, ints)))

-- ---- between ends

between : (bits : ℕ) (low high z : ℤ) → IsOfWidth bits low → IsOfWidth bits high → low ≤ℤ z → z ≤ℤ high → IsOfWidth bits z
between bits low high z l h up down = (let a = l.0 in omega (arith, ints), let b = h.1 in omega (arith, ints))

pub sums_stay : (bits : ℕ) (v w : Numbers) → AreSome v → AreSome w → (IsOfWidth bits (least v +ℤ least w) × IsOfWidth bits (greatest v +ℤ greatest w)) ↔ EachStays Add bits v w
sums_stay bits v w v_some w_some = (there, λ h. (h (least v) (least w) (omega (arith, ints), omega (arith, ints)) (omega (arith, ints), omega (arith, ints)), h (greatest v) (greatest w) (omega (arith, ints), omega (arith, ints)) (omega (arith, ints), omega (arith, ints))))
  where
    there : IsOfWidth bits (least v +ℤ least w) × IsOfWidth bits (greatest v +ℤ greatest w) → EachStays Add bits v w
    there (l, h) x y x_in y_in =
        let a = x_in.0 in let b = x_in.1 in let c = y_in.0 in let d = y_in.1 in
        between bits (least v +ℤ least w) (greatest v +ℤ greatest w) (x +ℤ y) l h (omega (arith, ints)) (omega (arith, ints))

pub differences_stay : (bits : ℕ) (v w : Numbers) → AreSome v → AreSome w → (IsOfWidth bits (least v -ℤ greatest w) × IsOfWidth bits (greatest v -ℤ least w)) ↔ EachStays Sub bits v w
differences_stay bits v w v_some w_some = (there, λ h. (h (least v) (greatest w) (omega (arith, ints), omega (arith, ints)) (omega (arith, ints), omega (arith, ints)), h (greatest v) (least w) (omega (arith, ints), omega (arith, ints)) (omega (arith, ints), omega (arith, ints))))
  where
    there : IsOfWidth bits (least v -ℤ greatest w) × IsOfWidth bits (greatest v -ℤ least w) → EachStays Sub bits v w
    there (l, h) x y x_in y_in =
        let a = x_in.0 in let b = x_in.1 in let c = y_in.0 in let d = y_in.1 in
        between bits (least v -ℤ greatest w) (greatest v -ℤ least w) (x -ℤ y) l h (omega (arith, ints)) (omega (arith, ints))

pub negations_stay : (bits : ℕ) (v : Numbers) → AreSome v → (IsOfWidth bits (neg_ℤ (least v)) × IsOfWidth bits (neg_ℤ (greatest v))) ↔ EachOne v (λ x. IsOfWidth bits (neg_ℤ x))
negations_stay bits v some = (there, λ h. (h (least v) (omega (arith, ints), omega (arith, ints)), h (greatest v) (omega (arith, ints), omega (arith, ints))))
  where
    there : IsOfWidth bits (neg_ℤ (least v)) × IsOfWidth bits (neg_ℤ (greatest v)) → EachOne v (λ x. IsOfWidth bits (neg_ℤ x))
    there (l, h) x x_in =
        let a = x_in.0 in let b = x_in.1 in
        between bits (neg_ℤ (greatest v)) (neg_ℤ (least v)) (neg_ℤ x) h l (omega (arith, ints)) (omega (arith, ints))

hull_stays : (bits : ℕ) (p q u v z : ℤ) → IsOfWidth bits p → IsOfWidth bits q → IsOfWidth bits u → IsOfWidth bits v → int_min (int_min p q) (int_min u v) ≤ℤ z → z ≤ℤ int_max (int_max p q) (int_max u v) → IsOfWidth bits z
hull_stays bits p q u v z a b c d low high = (omega (arith, ints, clamps), omega (arith, ints, clamps))

pub products_stay : (bits : ℕ) (v w : Numbers) → AreSome v → AreSome w → (EndsStay bits (least v) w × EndsStay bits (greatest v) w) ↔ EachStays Mul bits v w
products_stay bits v w v_some w_some = (there, back)
  where
    there : EndsStay bits (least v) w × EndsStay bits (greatest v) w → EachStays Mul bits v w
    there (low, high) x y x_in y_in =
        let inside = products_cover (range (least v) (greatest v)) (range (least w) (greatest w)) x y x_in y_in in
        hull_stays bits (least v *ℤ least w) (least v *ℤ greatest w) (greatest v *ℤ least w) (greatest v *ℤ greatest w) (x *ℤ y) low.0 low.1 high.0 high.1 inside.0 inside.1

    back : EachStays Mul bits v w → EndsStay bits (least v) w × EndsStay bits (greatest v) w
    back h =
        let v_low : IsOneOf v (least v) = (omega (arith, ints), omega (arith, ints)) in
        let v_high : IsOneOf v (greatest v) = (omega (arith, ints), omega (arith, ints)) in
        let w_low : IsOneOf w (least w) = (omega (arith, ints), omega (arith, ints)) in
        let w_high : IsOneOf w (greatest w) = (omega (arith, ints), omega (arith, ints)) in
        ((h (least v) (least w) v_low w_low, h (least v) (greatest w) v_low w_high), (h (greatest v) (least w) v_high w_low, h (greatest v) (greatest w) v_high w_high))

-- a product of two sums
pub four_parts : (a x b y : ℤ) → (a +ℤ x) *ℤ (b +ℤ y) ≡ a *ℤ b +ℤ (a *ℤ y +ℤ (x *ℤ b +ℤ (x *ℤ y +ℤ pos 0)))
four_parts a x b y =
    let one = distributes a x (b +ℤ y) in
    let two = distributes_over a b y in
    let three = distributes_over x b y in
    omega (arith, ints)

-- ---- quotients

pub quotients_stay : (bits : ℕ) (v w : Numbers) → IsOneOf v (neg_ℤ (pos (half bits))) → (IsOneOf w (negsuc 0) → ⊥) ↔ EachStays Div bits v w
quotients_stay bits v w has = (λ none x y x_in y_in both. none (subst (IsOneOf w) both.1 y_in), λ h one. h (neg_ℤ (pos (half bits))) (negsuc 0) has one (refl, refl))

pub quotients_stay_without : (bits : ℕ) (v w : Numbers) → (IsOneOf v (neg_ℤ (pos (half bits))) → ⊥) → EachStays Div bits v w
quotients_stay_without bits v w none x y x_in y_in both = none (subst (IsOneOf v) both.0 x_in)

-- ---- shifts

less_times : (a p q : ℕ) → a * q < p * q → a < p
less_times a p q less = elim (cases_lt a p) [
  | inl below ↦ below
  | inr above ↦ let more = mul-le-mul_right q above in absurd (omega arith)
]

times_less : (a p q : ℕ) → a < p → 0 < q → a * q < p * q
times_less a p q less some = let more = mul-le-mul_right q less in omega arith

-- a number is small enough to be shifted where it is less than what is left of the width
natural_shift : (a b n : ℕ) → (a * 2 ^ b < 2 ^ n) ↔ (a < 2 ^ (n - b))
natural_shift a b n = elim (cases_lt n b) [
  | inl far ↦ (λ h. far_less a b n far h, λ h. far_zero a b n far h)
  | inr near ↦
      let split : n ≡ (n - b) + b = omega arith in
      let power : 2 ^ n ≡ 2 ^ (n - b) * 2 ^ b = ap (λ k. 2 ^ k) split ∙ pow-add 2 (n - b) b in
      (λ h. less_times a (2 ^ (n - b)) (2 ^ b) (subst (λ m. a * 2 ^ b < m) power h), λ h. subst (λ m. a * 2 ^ b < m) (sym power) (times_less a (2 ^ (n - b)) (2 ^ b) h (pow_pos b)))
]
  where
    far_less : (a b n : ℕ) → n < b → a * 2 ^ b < 2 ^ n → a < 2 ^ (n - b)
    far_less zero b n far h = pow_pos (n - b)
    far_less (suc a) b n far h = let more = pow_below n b far in absurd (omega arith)

    far_zero : (a b n : ℕ) → n < b → a < 2 ^ (n - b) → a * 2 ^ b < 2 ^ n
    far_zero a b n far h =
        let none : n - b ≡ 0 = omega arith in
        let small : a < 2 ^ 0 = subst (λ k. a < 2 ^ k) none h in
        let zero_a : a ≡ 0 = omega arith in
        subst (λ k. k * 2 ^ b < 2 ^ n) (sym zero_a) (let some = pow_pos n in omega arith)

shift_one : (bits : ℕ) (w : Numbers) (n : ℕ) (x y : ℤ) → greatest w ≡ pos n → pos 0 ≤ℤ x → x <ℤ pos (2 ^ (bits - 1 - n)) → pos 0 ≤ℤ y → y ≤ℤ greatest w → IsShifted bits x y
shift_one bits w n (pos a) (pos b) is x_low x_high y_low y_high = (a, b, refl, refl, (omega (arith, ints), whole))
  where
    whole : pos (a * 2 ^ b) <ℤ pos (half bits)
    whole =
        let at_n = (natural_shift a n (bits - 1)).1 (omega (arith, ints)) in
        let up = pow_up b n (omega (arith, ints)) in
        let more = mul-le-mul_left a up in
        omega (arith, ints)
shift_one bits w n (pos a) (negsuc b) is x_low x_high y_low y_high = absurd (omega (arith, ints))
shift_one bits w n (negsuc a) y is x_low x_high y_low y_high = absurd (omega (arith, ints))

shifted_one : (bits n : ℕ) (x : ℤ) → IsShifted bits x (pos n) → x <ℤ pos (2 ^ (bits - 1 - n))
shifted_one bits n x (a, b, x_is, n_is, fits) =
    let same : b ≡ n = omega (arith, ints) in
    let small : a * 2 ^ n < 2 ^ (bits - 1) = subst (λ k. a * 2 ^ k < 2 ^ (bits - 1)) same (let high = fits.1 in omega (arith, ints)) in
    let below = (natural_shift a n (bits - 1)).0 small in
    omega (arith, ints)

pub not_shifted : (bits : ℕ) (v w : Numbers) → AreSome v → AreSome w → (least v <ℤ pos 0) ⊎ (least w <ℤ pos 0) → EachStays Shl bits v w → ⊥
not_shifted bits v w v_some w_some less h = negative (h (least v) (least w) (omega (arith, ints), omega (arith, ints)) (omega (arith, ints), omega (arith, ints)))
  where
    negative : IsShifted bits (least v) (least w) → ⊥
    negative (a, b, x_is, y_is, fits) = elim less [
      | inl below ↦ absurd (omega (arith, ints))
      | inr below ↦ absurd (omega (arith, ints))
    ]

natural_of : (z : ℤ) → pos 0 ≤ℤ z → (n : ℕ) × (z ≡ pos n)
natural_of (pos n) some = (n, refl)
natural_of (negsuc n) some = absurd (omega (arith, ints))

pub shifts_stay : (bits left : ℕ) (v w : Numbers) → AreSome v → AreSome w → pos 0 ≤ℤ least v → pos 0 ≤ℤ least w → ((n : ℕ) → greatest w ≡ pos n → left ≡ bits - 1 - n) → (greatest v <ℤ pos (2 ^ left)) ↔ EachStays Shl bits v w
shifts_stay bits left v w v_some w_some v_up w_up room = (there, back)
  where
    last : (n : ℕ) × (greatest w ≡ pos n)
    last = natural_of (greatest w) (omega (arith, ints))

    there : greatest v <ℤ pos (2 ^ left) → EachStays Shl bits v w
    there less x y x_in y_in =
        let limit = subst (λ k. greatest v <ℤ pos (2 ^ k)) (room last.0 last.1) less in
        let a = x_in.0 in let b = x_in.1 in let c = y_in.0 in let d = y_in.1 in
        shift_one bits w last.0 x y last.1 (omega (arith, ints)) (omega (arith, ints)) (omega (arith, ints)) (omega (arith, ints))

    back : EachStays Shl bits v w → greatest v <ℤ pos (2 ^ left)
    back h =
        let one = h (greatest v) (greatest w) (omega (arith, ints), omega (arith, ints)) (omega (arith, ints), omega (arith, ints)) in
        subst (λ k. greatest v <ℤ pos (2 ^ k)) (sym (room last.0 last.1)) (shifted_one bits last.0 (greatest v) (subst (IsShifted bits (greatest v)) last.1 one))

-- ---- other numbers

pub all_miss_zero : (r : Numbers) → AreSome r → ((greatest r <ℤ pos 0) ⊎ (pos 0 <ℤ least r)) ↔ EachOne r (λ z. z ≢ pos 0)
all_miss_zero r some = (there, back)
  where
    there : (greatest r <ℤ pos 0) ⊎ (pos 0 <ℤ least r) → EachOne r (λ z. z ≢ pos 0)
    there sides z one none = let a = one.0 in let b = one.1 in elim sides [
      | inl below ↦ absurd (omega (arith, ints))
      | inr above ↦ absurd (omega (arith, ints))
    ]

    back : EachOne r (λ z. z ≢ pos 0) → (greatest r <ℤ pos 0) ⊎ (pos 0 <ℤ least r)
    back h = by_lt_z (greatest r) (pos 0) (λ below. inl below) (λ up. by_lt_z (pos 0) (least r) (λ above. inr above) (λ down. absurd (h (pos 0) (omega (arith, ints), omega (arith, ints)) refl)))

pub all_lie : (r : Numbers) (lo hi : ℤ) → AreSome r → ((lo ≤ℤ least r) × (greatest r ≤ℤ hi)) ↔ EachOne r (λ z. (lo ≤ℤ z) × (z ≤ℤ hi))
all_lie r lo hi some = (λ ends z one. (let a = ends.0 in let b = one.0 in omega (arith, ints), let a = ends.1 in let b = one.1 in omega (arith, ints)), λ h. ((h (least r) (omega (arith, ints), omega (arith, ints))).0, (h (greatest r) (omega (arith, ints), omega (arith, ints))).1))

pub above_zero : (r : Numbers) (t : Bool) → AreSome r → pos 0 ≤ℤ greatest r → (IsTrue t ↔ (pos 0 <ℤ least r)) → IsTrue t ↔ EachOne r (λ z. z ≢ pos 0)
above_zero r t some up tells = (λ h. (all_miss_zero r some).0 (inr (tells.0 h)), λ each. tells.1 (above ((all_miss_zero r some).1 each)))
  where
    above : (greatest r <ℤ pos 0) ⊎ (pos 0 <ℤ least r) → pos 0 <ℤ least r
    above (inl below) = absurd (omega (arith, ints))
    above (inr more) = more

pub negated_stay : (bits : ℕ) (v w : Numbers) → AreSome w → EachOne v (λ x. IsOfWidth bits (neg_ℤ x)) ↔ EachStays Neg bits v w
negated_stay bits v w some = (λ h x y x_in y_in. h x x_in, λ h x x_in. h x (least w) x_in (omega (arith, ints), omega (arith, ints)))
