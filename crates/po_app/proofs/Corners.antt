-- A product lies between those of the ends.
use Rattle.std.proofs.Common.{◌≡◌, zero, suc, ◌≤◌, arith, sym, refl, ◌⊎◌, inl, inr}
use Rattle.std.specs.Prelude.{ℤ, ◌≤ℤ◌, ◌*ℤ◌, pos, negsuc}
use Rattle.std.specs.Int.{int_min, int_max}
use Rattle.std.proofs.lemmas.Int.{ints, clamps}
use Rattle.std.proofs.Math.Nat.{mul-le-mul_right}
use Rattle.std.proofs.Math.IntN.{pos-*ℤ-pos, negsuc-*ℤ-pos, neg_ℤ, neg_ℤ-neg_ℤ, *ℤ_comm, *ℤ-negsuc, *ℤ-zero}
use Rattle.po_arith.specs.declared.range.Range.{Range}
use Rattle.po_app.specs.Ranges.{IsIn}
use Rattle.po_app.specs.Corners.{least_of, greatest_of, products}

-- multiplied by a number that isn't negative, the order stays
times_up : (k a b : ℤ) → pos 0 ≤ℤ k → a ≤ℤ b → (a *ℤ k) ≤ℤ (b *ℤ k)
times_up (negsuc n) a b k_up below = absurd (omega (arith, ints))
times_up (pos n) (pos a) (pos b) k_up below =
    let below' : a ≤ b = omega (arith, ints) in
    rw (pos-*ℤ-pos a n, pos-*ℤ-pos b n) (let m = mul-le-mul_right n below' in omega (arith, ints))
times_up (pos n) (pos a) (negsuc b) k_up below = absurd (omega (arith, ints))
times_up (pos n) (negsuc a) (pos b) k_up below = rw (negsuc-*ℤ-pos a n, pos-*ℤ-pos b n) (omega (arith, ints))
times_up (pos n) (negsuc a) (negsuc b) k_up below =
    let below' : suc b ≤ suc a = omega (arith, ints) in
    rw (negsuc-*ℤ-pos a n, negsuc-*ℤ-pos b n) (let m = mul-le-mul_right n below' in omega (arith, ints))

times-neg : (a k : ℤ) → a *ℤ neg_ℤ k ≡ neg_ℤ (a *ℤ k)
times-neg a (pos zero) = rw *ℤ-zero refl
times-neg a (pos (suc n)) = *ℤ-negsuc a n
times-neg a (negsuc n) = rw (*ℤ-negsuc a n) (sym (neg_ℤ-neg_ℤ _))

-- multiplied by a number that isn't positive, the order turns
times_down : (k a b : ℤ) → k ≤ℤ pos 0 → a ≤ℤ b → (b *ℤ k) ≤ℤ (a *ℤ k)
times_down k a b k_down below =
    let up = times_up (neg_ℤ k) a b (omega (arith, ints)) below in
    let ea = times-neg a k in
    let eb = times-neg b k in
    omega (arith, ints)

sign : (k : ℤ) → (pos 0 ≤ℤ k) ⊎ (k ≤ℤ pos 0)
sign (pos n) = inl (omega (arith, ints))
sign (negsuc n) = inr (omega (arith, ints))

-- between two numbers, in either order
record Between (x y v : ℤ) : Type 0 where
  pub low : int_min x y ≤ℤ v
  pub high : v ≤ℤ int_max x y

-- w runs from c to d, and w times k between the two ends
line : (k c d w : ℤ) → c ≤ℤ w → w ≤ℤ d → Between (c *ℤ k) (d *ℤ k) (w *ℤ k)
line k c d w above below =
    elim (sign k) [
      | inl up ↦ let p = times_up k c w up above in let q = times_up k w d up below in record { low = omega (arith, ints, clamps); high = omega (arith, ints, clamps) }
      | inr down ↦ let p = times_down k c w down above in let q = times_down k w d down below in record { low = omega (arith, ints, clamps); high = omega (arith, ints, clamps) }
    ]

-- what lies between two numbers that lie between pairs lies between all four
hull_of_lines : (ac ad bc bd aw bw vw : ℤ) → Between ac ad aw → Between bc bd bw → Between aw bw vw → (least_of ac ad bc bd ≤ℤ vw) × (vw ≤ℤ greatest_of ac ad bc bd)
hull_of_lines ac ad bc bd aw bw vw p q r = (omega (arith, ints, clamps), omega (arith, ints, clamps))

pub product_in : (a b : Range) (v w : ℤ) → IsIn a v → IsIn b w → IsIn (products a b) (v *ℤ w)
product_in a b v w v_in w_in =
    let p = line b.lo a.lo a.hi v v_in.0 v_in.1 in
    let q = line b.hi a.lo a.hi v v_in.0 v_in.1 in
    let r : Between (v *ℤ b.lo) (v *ℤ b.hi) (v *ℤ w) = rw (*ℤ_comm v b.lo, *ℤ_comm v b.hi, *ℤ_comm v w) (line v b.lo b.hi w w_in.0 w_in.1) in
    hull_of_lines _ _ _ _ _ _ _ p q r
