use Rattle.std.proofs.Common.{rules, ◌≡◌, ◌-◌, ◌↔◌, arith, subst, FitsSigned, to_z-of_z}
use Rattle.std.specs.Prelude.{pos, neg_ℤ, ◌+ℤ◌, ◌*ℤ◌, ◌≤ℤ◌, ◌<ℤ◌, not, IsTrue}
use Rattle.std.specs.Int.{w128}
use Rattle.std.proofs.lemmas.Int.{ints}
use Rattle.po_memory.specs.Blocks.{half}
use Rattle.po_holds.specs.Over.{IsPower}
use Rattle.po_holds.proofs.Telling.{first_met, then_tells}
use Rattle.po_holds.specs.Over.{sum_of}
use Rattle.po_holds.proofs.Widths.{width_low, width_high}
use Rattle.po_holds.proofs.over.is_of_width.Goals as goal

pub returns-then-is_negative : goal.returns-then-is_negative
returns-then-is_negative c =
    let fits_0 : FitsSigned w128 c.args.sum.now.a = search rules in
    let fits_1 : FitsSigned w128 c.args.sum.now.w = search rules in
    let fits_2 : FitsSigned w128 c.args.sum.now.b = search rules in
    let fits_3 : FitsSigned w128 c.args.sum.now.x = search rules in
    let fits_4 : FitsSigned w128 c.args.sum.now.c = search rules in
    let fits_5 : FitsSigned w128 c.args.sum.now.y = search rules in
    let fits_6 : FitsSigned w128 c.args.sum.now.d = search rules in
    let fits_7 : FitsSigned w128 c.args.sum.now.z = search rules in
    let fits_p0 : FitsSigned w128 c.power_of-half.result.first = search rules in
    let fits_p1 : FitsSigned w128 c.power_of-half.result.more = search rules in
    let fits_p2 : FitsSigned w128 c.power_of-half.result.second = search rules in
    let count : c.saturating_sub.result ≡ c.args.bits - 1 = omega (arith, c.saturating_sub.ensures) in
    let power : IsPower (c.args.bits - 1) c.power_of-half.result = subst (λ n. IsPower n c.power_of-half.result) count c.power_of-half.ensures in
    let fits_neg : FitsSigned w128 (pos 0 +ℤ neg_ℤ c.power_of-half.result.second) = omega (arith, ints, power.least, power.greatest) in
    let fits_turned : FitsSigned w128 (neg_ℤ c.power_of-half.result.second) = omega (arith, ints, power.least, power.greatest) in
    let neg_is : pos 0 +ℤ neg_ℤ c.power_of-half.result.second ≡ neg_ℤ c.power_of-half.result.second = omega (arith, ints) in
    let low_sum : IsTrue c.is_negative.result ↔ ((c.args.sum.now.a *ℤ c.args.sum.now.w +ℤ (c.args.sum.now.b *ℤ c.args.sum.now.x +ℤ (c.args.sum.now.c *ℤ c.args.sum.now.y +ℤ (c.args.sum.now.d *ℤ c.args.sum.now.z +ℤ (c.power_of-half.result.first *ℤ neg_ℤ c.power_of-half.result.second +ℤ (c.power_of-half.result.more *ℤ neg_ℤ c.power_of-half.result.second +ℤ pos 0)))))) <ℤ pos 0) = simp (to_z-of_z, neg_is) at c.is_negative.ensures in
    let low : IsTrue (not c.is_negative.result) ↔ (neg_ℤ (pos (half c.args.bits)) ≤ℤ sum_of c.args.sum.now) = width_low c.args.bits c.power_of-half.result (c.args.sum.now.a) (c.args.sum.now.w) (c.args.sum.now.b) (c.args.sum.now.x) (c.args.sum.now.c) (c.args.sum.now.y) (c.args.sum.now.d) (c.args.sum.now.z) c.is_negative.result power low_sum in
    first_met c.is_negative.result low (λ x. x, λ x. x) c.if-is_negative.true

pub returns : goal.returns
returns c =
    let fits_0 : FitsSigned w128 c.args.sum.now.a = search rules in
    let fits_1 : FitsSigned w128 c.args.sum.now.w = search rules in
    let fits_2 : FitsSigned w128 c.args.sum.now.b = search rules in
    let fits_3 : FitsSigned w128 c.args.sum.now.x = search rules in
    let fits_4 : FitsSigned w128 c.args.sum.now.c = search rules in
    let fits_5 : FitsSigned w128 c.args.sum.now.y = search rules in
    let fits_6 : FitsSigned w128 c.args.sum.now.d = search rules in
    let fits_7 : FitsSigned w128 c.args.sum.now.z = search rules in
    let fits_p0 : FitsSigned w128 c.power_of-half.result.first = search rules in
    let fits_p1 : FitsSigned w128 c.power_of-half.result.more = search rules in
    let fits_p2 : FitsSigned w128 c.power_of-half.result.second = search rules in
    let count : c.saturating_sub.result ≡ c.args.bits - 1 = omega (arith, c.saturating_sub.ensures) in
    let power : IsPower (c.args.bits - 1) c.power_of-half.result = subst (λ n. IsPower n c.power_of-half.result) count c.power_of-half.ensures in
    let fits_neg : FitsSigned w128 (pos 0 +ℤ neg_ℤ c.power_of-half.result.second) = omega (arith, ints, power.least, power.greatest) in
    let fits_turned : FitsSigned w128 (neg_ℤ c.power_of-half.result.second) = omega (arith, ints, power.least, power.greatest) in
    let neg_is : pos 0 +ℤ neg_ℤ c.power_of-half.result.second ≡ neg_ℤ c.power_of-half.result.second = omega (arith, ints) in
    let low_sum : IsTrue c.is_negative.result ↔ ((c.args.sum.now.a *ℤ c.args.sum.now.w +ℤ (c.args.sum.now.b *ℤ c.args.sum.now.x +ℤ (c.args.sum.now.c *ℤ c.args.sum.now.y +ℤ (c.args.sum.now.d *ℤ c.args.sum.now.z +ℤ (c.power_of-half.result.first *ℤ neg_ℤ c.power_of-half.result.second +ℤ (c.power_of-half.result.more *ℤ neg_ℤ c.power_of-half.result.second +ℤ pos 0)))))) <ℤ pos 0) = simp (to_z-of_z, neg_is) at c.is_negative.ensures in
    let low : IsTrue (not c.is_negative.result) ↔ (neg_ℤ (pos (half c.args.bits)) ≤ℤ sum_of c.args.sum.now) = width_low c.args.bits c.power_of-half.result (c.args.sum.now.a) (c.args.sum.now.w) (c.args.sum.now.b) (c.args.sum.now.x) (c.args.sum.now.c) (c.args.sum.now.y) (c.args.sum.now.d) (c.args.sum.now.z) c.is_negative.result power low_sum in
    let high_sum : IsTrue c.is_negative-2.result ↔ ((c.args.sum.now.a *ℤ c.args.sum.now.w +ℤ (c.args.sum.now.b *ℤ c.args.sum.now.x +ℤ (c.args.sum.now.c *ℤ c.args.sum.now.y +ℤ (c.args.sum.now.d *ℤ c.args.sum.now.z +ℤ (c.power_of-half.result.first *ℤ c.power_of-half.result.second +ℤ (c.power_of-half.result.more *ℤ c.power_of-half.result.second +ℤ pos 0)))))) <ℤ pos 0) = simp (to_z-of_z, neg_is) at c.is_negative-2.ensures in
    let high : IsTrue c.is_negative-2.result ↔ (sum_of c.args.sum.now <ℤ pos (half c.args.bits)) = width_high c.args.bits c.power_of-half.result (c.args.sum.now.a) (c.args.sum.now.w) (c.args.sum.now.b) (c.args.sum.now.x) (c.args.sum.now.c) (c.args.sum.now.y) (c.args.sum.now.d) (c.args.sum.now.z) c.is_negative-2.result power high_sum in
    then_tells c.is_negative.result c.is_negative-2.result low high (λ x. x, λ x. x) c.if-is_negative.false
