use Rattle.std.proofs.Common.{rules, ◌≡◌, ◌^◌, ◌<◌, ◌↔◌, arith, ap, ◌∙◌, length, FitsSigned, to_z-of_z}
use Rattle.std.specs.Prelude.{pos, negsuc, neg_ℤ, ◌+ℤ◌, ◌*ℤ◌, ◌<ℤ◌, not, IsTrue}
use Rattle.std.specs.Int.{w128}
use Rattle.std.proofs.lemmas.Int.{ints, to_z_pos}
use Rattle.po_holds.proofs.Telling.{first_met, then_tells}
use Rattle.std.specs.Int.{w64}
use mir.Val.{to_z}
use Rattle.po_holds.specs.Asking.{IsLeast, IsGreatest}
use Rattle.po_holds.proofs.Asked.{inside_tells, low_tells, high_tells}
use Rattle.po_holds.proofs.asking.are_inside.Goals as goal

pub returns-then-is_negative : goal.returns-then-is_negative
returns-then-is_negative c =
    let fits_0 : FitsSigned w128 c.args.at.now.base = search rules in
    let fits_1 : FitsSigned w128 c.args.at.now.lo = search rules in
    let fits_3 : FitsSigned w128 c.args.r.now.base = search rules in
    let narrow : FitsSigned w64 c.args.factor = search rules in
    let fits_k : FitsSigned w128 c.args.factor = omega (arith, ints, narrow) in
    let fits_neg : FitsSigned w128 (pos 0 +ℤ neg_ℤ c.args.factor) = omega (arith, ints, narrow) in
    let fits_turned : FitsSigned w128 (neg_ℤ c.args.factor) = omega (arith, ints, narrow) in
    let neg_is : pos 0 +ℤ neg_ℤ c.args.factor ≡ neg_ℤ c.args.factor = omega (arith, ints) in
    let fits_low : FitsSigned w128 c.least_end-low.result = search rules in
    let fits_high : FitsSigned w128 c.greatest_end-high.result = search rules in
    let low_is : IsLeast c.args.factor c.args.r.now c.least_end-low.result = simp to_z-of_z at c.least_end-low.ensures in
    let high_is : IsGreatest c.args.factor c.args.r.now c.greatest_end-high.result = simp to_z-of_z at c.greatest_end-high.ensures in
    let low_sum : IsTrue c.is_negative.result ↔ ((pos 1 *ℤ c.args.at.now.base +ℤ (pos 1 *ℤ c.args.at.now.lo +ℤ (c.args.factor *ℤ c.args.r.now.base +ℤ (c.args.factor *ℤ c.least_end-low.result +ℤ pos 0)))) <ℤ pos 0) = simp (to_z-of_z, neg_is) at c.is_negative.ensures in
    first_met c.is_negative.result (low_tells c.args.factor c.args.at.now c.args.r.now c.least_end-low.result c.is_negative.result low_sum) (inside_tells c.args.factor c.args.at.now c.args.r.now c.args.c.now c.least_end-low.result c.greatest_end-high.result c.requires.at low_is high_is) c.if-is_negative.true

pub returns : goal.returns
returns c =
    let fits_0 : FitsSigned w128 c.args.at.now.base = search rules in
    let fits_1 : FitsSigned w128 c.args.at.now.lo = search rules in
    let fits_2 : FitsSigned w128 c.args.at.now.hi = search rules in
    let fits_3 : FitsSigned w128 c.args.r.now.base = search rules in
    let narrow : FitsSigned w64 c.args.factor = search rules in
    let fits_k : FitsSigned w128 c.args.factor = omega (arith, ints, narrow) in
    let fits_neg : FitsSigned w128 (pos 0 +ℤ neg_ℤ c.args.factor) = omega (arith, ints, narrow) in
    let fits_turned : FitsSigned w128 (neg_ℤ c.args.factor) = omega (arith, ints, narrow) in
    let neg_is : pos 0 +ℤ neg_ℤ c.args.factor ≡ neg_ℤ c.args.factor = omega (arith, ints) in
    let fits_low : FitsSigned w128 c.least_end-low.result = search rules in
    let fits_high : FitsSigned w128 c.greatest_end-high.result = search rules in
    let low_is : IsLeast c.args.factor c.args.r.now c.least_end-low.result = simp to_z-of_z at c.least_end-low.ensures in
    let high_is : IsGreatest c.args.factor c.args.r.now c.greatest_end-high.result = simp to_z-of_z at c.greatest_end-high.ensures in
    let low_sum : IsTrue c.is_negative.result ↔ ((pos 1 *ℤ c.args.at.now.base +ℤ (pos 1 *ℤ c.args.at.now.lo +ℤ (c.args.factor *ℤ c.args.r.now.base +ℤ (c.args.factor *ℤ c.least_end-low.result +ℤ pos 0)))) <ℤ pos 0) = simp (to_z-of_z, neg_is) at c.is_negative.ensures in
    let small : c.len-size.result < 2 ^ 64 = search rules in
    let size_is : to_z w128 c.len-size.result ≡ pos (length c.args.c.now.bytes) = to_z_pos w128 c.len-size.result (omega (arith, small)) ∙ ap pos c.len-size.ensures in
    let high_sum : IsTrue c.is_negative-2.result ↔ ((pos 1 *ℤ pos (length c.args.c.now.bytes) +ℤ (negsuc 0 *ℤ c.args.at.now.base +ℤ (negsuc 0 *ℤ c.args.at.now.hi +ℤ (neg_ℤ c.args.factor *ℤ c.args.r.now.base +ℤ (neg_ℤ c.args.factor *ℤ c.greatest_end-high.result +ℤ pos 0))))) <ℤ pos 0) = simp (to_z-of_z, neg_is, size_is) at c.is_negative-2.ensures in
    then_tells c.is_negative.result (not c.is_negative-2.result) (low_tells c.args.factor c.args.at.now c.args.r.now c.least_end-low.result c.is_negative.result low_sum) (high_tells c.args.factor c.args.at.now c.args.r.now c.args.c.now c.greatest_end-high.result c.is_negative-2.result high_sum) (inside_tells c.args.factor c.args.at.now c.args.r.now c.args.c.now c.least_end-low.result c.greatest_end-high.result c.requires.at low_is high_is) c.if-is_negative.false
