-- Sums of products in digits.
use Rattle.std.proofs.Common.{◌≡◌, ◌^◌, ◌*◌, ◌+◌, ◌≤◌, ◌↔◌, ℕ, suc, arith, sym, ap, refl, ◌∙◌, drop, List, FitsSigned}
use Rattle.std.specs.Prelude.{ℤ, pos, negsuc, neg_ℤ, ◌+ℤ◌, ◌-ℤ◌, ◌*ℤ◌, ◌≤ℤ◌, ◌<ℤ◌, Some, Bool, true, false, not, IsTrue, slice_get}
use Rattle.std.specs.Int.{int_shr, w128}
use Rattle.std.proofs.lemmas.Int.{ints, by_lt_z}
use Rattle.std.proofs.Math.IntN.{*ℤ_comm}
use Rattle.po_lists.proofs.Integers.{distributes, distributes_over, regrouped}
use Rattle.po_arith.proofs.Shifted.{shifted}
use Rattle.po_memory.proofs.General.{drop_at}
use Rattle.po_holds.specs.declared.exact.Digits.{Digits}
use Rattle.po_holds.specs.declared.exact.Exact.{Exact}
use Rattle.po_holds.specs.Exact.{total, IsUpTo, IsDigit, AreDigits, number, whole, IsAfter, AreAfter}

-- ---- a number's digits

pub rest_below : (x : ℤ) → (pos 0 ≤ℤ (x -ℤ int_shr x 48 *ℤ pos (2 ^ 48))) × ((x -ℤ int_shr x 48 *ℤ pos (2 ^ 48)) <ℤ pos (2 ^ 48))
rest_below x = let down = shifted x 48 in (omega (arith, ints), omega (arith, ints))

pub shifted_small : (x : ℤ) → FitsSigned w128 x → (neg_ℤ (pos (2 ^ 79)) ≤ℤ int_shr x 48) × (int_shr x 48 ≤ℤ pos (2 ^ 79))
shifted_small x fits = let down = shifted x 48 in (omega (arith, ints), omega (arith, ints))

pub split : (x : ℤ) → (x -ℤ int_shr x 48 *ℤ pos (2 ^ 48)) +ℤ (int_shr x 48 -ℤ int_shr (int_shr x 48) 48 *ℤ pos (2 ^ 48)) *ℤ pos (2 ^ 48) +ℤ int_shr (int_shr x 48) 48 *ℤ pos (2 ^ 96) ≡ x
split x = omega (arith, ints)

pub digits_small : (x : ℤ) → FitsSigned w128 x → AreDigits (record { low = x -ℤ int_shr x 48 *ℤ pos (2 ^ 48); middle = int_shr x 48 -ℤ int_shr (int_shr x 48) 48 *ℤ pos (2 ^ 48); high = int_shr (int_shr x 48) 48 })
digits_small x fits =
    let rest = shifted x 48 in
    let high = shifted (int_shr x 48) 48 in
    record { low = (omega (arith, ints), omega (arith, ints)); middle = (omega (arith, ints), omega (arith, ints)); high = (omega (arith, ints), omega (arith, ints)) }

-- ---- products of digits

natural_product : (m n a b : ℕ) → a ≤ m → b ≤ n → a * b ≤ m * n
natural_product m n a b p q = grind arith

pub product_small : (x y : ℤ) → IsDigit x → IsDigit y → IsUpTo (2 ^ 96) (x *ℤ y)
product_small (pos a) (pos b) p q = let less = natural_product (2 ^ 48) (2 ^ 48) a b (omega (arith, ints)) (omega (arith, ints)) in (omega (arith, ints), omega (arith, ints))
product_small (pos a) (negsuc b) p q = let less = natural_product (2 ^ 48) (2 ^ 48) a (suc b) (omega (arith, ints)) (omega (arith, ints)) in (omega (arith, ints), omega (arith, ints))
product_small (negsuc a) (pos b) p q = let less = natural_product (2 ^ 48) (2 ^ 48) (suc a) b (omega (arith, ints)) (omega (arith, ints)) in (omega (arith, ints), omega (arith, ints))
product_small (negsuc a) (negsuc b) p q = let less = natural_product (2 ^ 48) (2 ^ 48) (suc a) (suc b) (omega (arith, ints)) (omega (arith, ints)) in (omega (arith, ints), omega (arith, ints))

pub fits_product : (x y : ℤ) → IsDigit x → IsDigit y → FitsSigned w128 (x *ℤ y)
fits_product x y p q = let small = product_small x y p q in omega (arith, ints)

-- a row of the product
row : (z : ℤ) (d : Digits) → z *ℤ number d ≡ z *ℤ d.low +ℤ (z *ℤ d.middle) *ℤ pos (2 ^ 48) +ℤ (z *ℤ d.high) *ℤ pos (2 ^ 96)
row z d =
    let one = distributes_over z (d.low +ℤ d.middle *ℤ pos (2 ^ 48)) (d.high *ℤ pos (2 ^ 96)) in
    let two = distributes_over z d.low (d.middle *ℤ pos (2 ^ 48)) in
    let three = regrouped z d.middle (pos (2 ^ 48)) in
    let four = regrouped z d.high (pos (2 ^ 96)) in
    rw (one, two, ← three, ← four) refl

-- a digit's part of the product
part : (z y : ℤ) (m : ℕ) → (z *ℤ pos m) *ℤ y ≡ (z *ℤ y) *ℤ pos m
part z y m = *ℤ_comm (z *ℤ pos m) y ∙ sym (regrouped y z (pos m)) ∙ ap (λ v. v *ℤ pos m) (*ℤ_comm y z)

in_columns : (ll lm lh ml mm mh hl hm hh : ℤ) →
    (ll +ℤ lm *ℤ pos (2 ^ 48) +ℤ lh *ℤ pos (2 ^ 96)) +ℤ (ml +ℤ mm *ℤ pos (2 ^ 48) +ℤ mh *ℤ pos (2 ^ 96)) *ℤ pos (2 ^ 48) +ℤ (hl +ℤ hm *ℤ pos (2 ^ 48) +ℤ hh *ℤ pos (2 ^ 96)) *ℤ pos (2 ^ 96)
    ≡ ll +ℤ (lm +ℤ ml) *ℤ pos (2 ^ 48) +ℤ (lh +ℤ mm +ℤ hl) *ℤ pos (2 ^ 96) +ℤ (mh +ℤ hm) *ℤ pos (2 ^ 144) +ℤ hh *ℤ pos (2 ^ 192)
in_columns ll lm lh ml mm mh hl hm hh = omega (arith, ints)

pub product_of : (d f : Digits) →
    number d *ℤ number f ≡ d.low *ℤ f.low +ℤ (d.low *ℤ f.middle +ℤ d.middle *ℤ f.low) *ℤ pos (2 ^ 48) +ℤ (d.low *ℤ f.high +ℤ d.middle *ℤ f.middle +ℤ d.high *ℤ f.low) *ℤ pos (2 ^ 96) +ℤ (d.middle *ℤ f.high +ℤ d.high *ℤ f.middle) *ℤ pos (2 ^ 144) +ℤ (d.high *ℤ f.high) *ℤ pos (2 ^ 192)
product_of d f =
    let one = distributes (d.low +ℤ d.middle *ℤ pos (2 ^ 48)) (d.high *ℤ pos (2 ^ 96)) (number f) in
    let two = distributes d.low (d.middle *ℤ pos (2 ^ 48)) (number f) in
    let three = part d.middle (number f) (2 ^ 48) in
    let four = part d.high (number f) (2 ^ 96) in
    rw (one, two, three, four, row d.low f, row d.middle f, row d.high f)
    (in_columns (d.low *ℤ f.low) (d.low *ℤ f.middle) (d.low *ℤ f.high) (d.middle *ℤ f.low) (d.middle *ℤ f.middle) (d.middle *ℤ f.high) (d.high *ℤ f.low) (d.high *ℤ f.middle) (d.high *ℤ f.high))

-- the digits of a number with a product added
pub added : (s : Exact) (d f : Digits) (t : Exact) →
    t.a ≡ s.a +ℤ d.low *ℤ f.low → t.b ≡ s.b +ℤ (d.low *ℤ f.middle +ℤ d.middle *ℤ f.low) → t.c ≡ s.c +ℤ (d.low *ℤ f.high +ℤ d.middle *ℤ f.middle +ℤ d.high *ℤ f.low) → t.d ≡ s.d +ℤ (d.middle *ℤ f.high +ℤ d.high *ℤ f.middle) → t.e ≡ s.e +ℤ d.high *ℤ f.high →
    whole t ≡ whole s +ℤ number d *ℤ number f
added s d f t a b c e g = rw (product_of d f, a, b, c, e, g) (linear s.a s.b s.c s.d s.e (d.low *ℤ f.low) (d.low *ℤ f.middle +ℤ d.middle *ℤ f.low) (d.low *ℤ f.high +ℤ d.middle *ℤ f.middle +ℤ d.high *ℤ f.low) (d.middle *ℤ f.high +ℤ d.high *ℤ f.middle) (d.high *ℤ f.high))
  where
    linear : (a b c d e p q r s t : ℤ) → (a +ℤ p) +ℤ (b +ℤ q) *ℤ pos (2 ^ 48) +ℤ (c +ℤ r) *ℤ pos (2 ^ 96) +ℤ (d +ℤ s) *ℤ pos (2 ^ 144) +ℤ (e +ℤ t) *ℤ pos (2 ^ 192) ≡ (a +ℤ b *ℤ pos (2 ^ 48) +ℤ c *ℤ pos (2 ^ 96) +ℤ d *ℤ pos (2 ^ 144) +ℤ e *ℤ pos (2 ^ 192)) +ℤ (p +ℤ q *ℤ pos (2 ^ 48) +ℤ r *ℤ pos (2 ^ 96) +ℤ s *ℤ pos (2 ^ 144) +ℤ t *ℤ pos (2 ^ 192))
    linear a b c d e p q r s t = omega (arith, ints)

-- ---- how much they add up to

pub after_more : (n m : ℕ) (s : Exact) → n ≤ m → AreAfter n s → AreAfter m s
after_more n m s less after =
    let a = after.a in
    let b = after.b in
    let c = after.c in
    let d = after.d in
    let e = after.e in
    record { a = (omega (arith, ints), omega (arith, ints)); b = (omega (arith, ints), omega (arith, ints)); c = (omega (arith, ints), omega (arith, ints)); d = (omega (arith, ints), omega (arith, ints)); e = (omega (arith, ints), omega (arith, ints)) }

one_after : (n : ℕ) (v w : ℤ) → IsAfter n v → IsUpTo (2 ^ 98) w → IsAfter (n + 1) (v +ℤ w)
one_after n v w after near = (omega (arith, ints), omega (arith, ints))

pub one_up : (x : ℤ) → IsUpTo (2 ^ 96) x → IsUpTo (2 ^ 98) x
one_up x p = (omega (arith, ints), omega (arith, ints))

pub two_up : (x y : ℤ) → IsUpTo (2 ^ 96) x → IsUpTo (2 ^ 96) y → IsUpTo (2 ^ 98) (x +ℤ y)
two_up x y p q = (omega (arith, ints), omega (arith, ints))

pub three_up : (x y z : ℤ) → IsUpTo (2 ^ 96) x → IsUpTo (2 ^ 96) y → IsUpTo (2 ^ 96) z → IsUpTo (2 ^ 98) (x +ℤ y +ℤ z)
three_up x y z p q r = (omega (arith, ints), omega (arith, ints))

pub fits_sum : (x y : ℤ) → IsAfter 16 x → IsUpTo (2 ^ 98) y → FitsSigned w128 (x +ℤ y)
fits_sum x y p q = omega (arith, ints)

pub fits_up : (x : ℤ) → IsUpTo (2 ^ 98) x → FitsSigned w128 x
fits_up x p = omega (arith, ints)

pub fits_after : (x : ℤ) → IsAfter 16 x → FitsSigned w128 x
fits_after x p = omega (arith, ints)

pub more_after : (n : ℕ) (s : Exact) (p q r u v : ℤ) → AreAfter n s → IsUpTo (2 ^ 98) p → IsUpTo (2 ^ 98) q → IsUpTo (2 ^ 98) r → IsUpTo (2 ^ 98) u → IsUpTo (2 ^ 98) v →
    AreAfter (n + 1) (record { a = s.a +ℤ p; b = s.b +ℤ q; c = s.c +ℤ r; d = s.d +ℤ u; e = s.e +ℤ v })
more_after n s p q r u v after a b c d e = record { a = one_after n s.a p after.a a; b = one_after n s.b q after.b b; c = one_after n s.c r after.c c; d = one_after n s.d u after.d d; e = one_after n s.e v after.e e }

-- ---- the sign

pub sign_of : (a b c d e b' c' d' e' : ℤ) → b' ≡ b +ℤ int_shr a 48 → c' ≡ c +ℤ int_shr b' 48 → d' ≡ d +ℤ int_shr c' 48 → e' ≡ e +ℤ int_shr d' 48 →
    ((a +ℤ b *ℤ pos (2 ^ 48) +ℤ c *ℤ pos (2 ^ 96) +ℤ d *ℤ pos (2 ^ 144) +ℤ e *ℤ pos (2 ^ 192)) <ℤ pos 0) ↔ (e' <ℤ pos 0)
sign_of a b c d e b' c' d' e' p q r s =
    let one = shifted a 48 in
    let two = shifted b' 48 in
    let three = shifted c' 48 in
    let four = shifted d' 48 in
    (λ h. omega (arith, ints), λ h. omega (arith, ints))

-- ---- lists of products

pub total_more : (ts : List (ℤ × ℤ)) (i : ℕ) (t : ℤ × ℤ) → slice_get ts i ≡ Some t → total (drop i ts) ≡ t.0 *ℤ t.1 +ℤ total (drop (suc i) ts)
total_more ts i t there = ap total (drop_at ts i t there)

pub turned : (w m n : ℤ) (x y rest all : ℤ) → m ≡ x → n ≡ y → w ≡ rest → all ≡ x *ℤ y +ℤ rest → w +ℤ m *ℤ n ≡ all
turned w m n x y rest all m_is n_is w_is all_is = rw (m_is, n_is, w_is, all_is) (omega (arith, ints))

-- ---- what its sign tells

pub at_least : (b : Bool) (z : ℤ) → (IsTrue b ↔ (z <ℤ pos 0)) → b ≡ false → pos 0 ≤ℤ z
at_least b z tells not_less = by_lt_z z (pos 0) (λ less. let yes = tells.1 less in absurd (cc)) (λ up. up)

pub tells_not : (b : Bool) (z : ℤ) → (IsTrue b ↔ (z <ℤ pos 0)) → IsTrue (not b) ↔ (pos 0 ≤ℤ z)
tells_not true z tells = (λ h. absurd (cc), λ h. let less = tells.0 refl in absurd (omega (arith, ints)))
tells_not false z tells = (λ h. at_least false z tells refl, λ h. refl)
