use Rattle.std.proofs.Common.{rules, ◌≡◌, ◌-◌, ◌↔◌, arith, subst, FitsSigned, to_z-of_z}
use Rattle.std.specs.Prelude.{pos, negsuc, neg_ℤ, ◌+ℤ◌, ◌*ℤ◌, ◌≤ℤ◌, ◌<ℤ◌, not, IsTrue}
use Rattle.std.specs.Int.{w128}
use Rattle.std.proofs.lemmas.Int.{ints}
use Rattle.po_lists.proofs.Integers.{times_neg}
use Rattle.po_memory.specs.Blocks.{half}
use Rattle.po_holds.specs.Choosing.{least, greatest}
use Rattle.po_holds.specs.Over.{IsPower}
use Rattle.po_holds.proofs.Telling.{first_met, then_tells}
use Rattle.po_holds.proofs.Sums.{tells_not}
use Rattle.po_holds.proofs.over.have_least.Goals as goal

pub returns-then-is_negative : goal.returns-then-is_negative
returns-then-is_negative c =
    let fits_0 : FitsSigned w128 c.args.v.now.base = search rules in
    let fits_1 : FitsSigned w128 c.args.v.now.lo = search rules in
    let fits_p0 : FitsSigned w128 c.power_of-half.result.first = search rules in
    let fits_p1 : FitsSigned w128 c.power_of-half.result.more = search rules in
    let fits_p2 : FitsSigned w128 c.power_of-half.result.second = search rules in
    let count : c.saturating_sub.result ≡ c.args.bits - 1 = omega (arith, c.saturating_sub.ensures) in
    let power : IsPower (c.args.bits - 1) c.power_of-half.result = subst (λ n. IsPower n c.power_of-half.result) count c.power_of-half.ensures in
    let fits_neg : FitsSigned w128 (pos 0 +ℤ neg_ℤ c.power_of-half.result.second) = omega (arith, ints, power.least, power.greatest) in
    let fits_turned : FitsSigned w128 (neg_ℤ c.power_of-half.result.second) = omega (arith, ints, power.least, power.greatest) in
    let neg_is : pos 0 +ℤ neg_ℤ c.power_of-half.result.second ≡ neg_ℤ c.power_of-half.result.second = omega (arith, ints) in
    let low_sum : IsTrue c.is_negative.result ↔ ((negsuc 0 *ℤ c.args.v.now.base +ℤ (negsuc 0 *ℤ c.args.v.now.lo +ℤ (c.power_of-half.result.first *ℤ c.power_of-half.result.second +ℤ (c.power_of-half.result.more *ℤ c.power_of-half.result.second +ℤ pos 0)))) <ℤ pos 0) = simp (to_z-of_z, neg_is) at c.is_negative.ensures in
    let low_not = tells_not c.is_negative.result (negsuc 0 *ℤ c.args.v.now.base +ℤ (negsuc 0 *ℤ c.args.v.now.lo +ℤ (c.power_of-half.result.first *ℤ c.power_of-half.result.second +ℤ (c.power_of-half.result.more *ℤ c.power_of-half.result.second +ℤ pos 0)))) low_sum in
    let low : IsTrue (not c.is_negative.result) ↔ (least c.args.v.now ≤ℤ neg_ℤ (pos (half c.args.bits))) = (λ h. let above = low_not.0 h in omega (arith, ints, above, power.value), λ h. low_not.1 (omega (arith, ints, h, power.value))) in
    first_met c.is_negative.result low (λ x. x, λ x. x) c.if-is_negative.true

pub returns : goal.returns
returns c =
    let fits_0 : FitsSigned w128 c.args.v.now.base = search rules in
    let fits_1 : FitsSigned w128 c.args.v.now.lo = search rules in
    let fits_2 : FitsSigned w128 c.args.v.now.hi = search rules in
    let fits_p0 : FitsSigned w128 c.power_of-half.result.first = search rules in
    let fits_p1 : FitsSigned w128 c.power_of-half.result.more = search rules in
    let fits_p2 : FitsSigned w128 c.power_of-half.result.second = search rules in
    let count : c.saturating_sub.result ≡ c.args.bits - 1 = omega (arith, c.saturating_sub.ensures) in
    let power : IsPower (c.args.bits - 1) c.power_of-half.result = subst (λ n. IsPower n c.power_of-half.result) count c.power_of-half.ensures in
    let fits_neg : FitsSigned w128 (pos 0 +ℤ neg_ℤ c.power_of-half.result.second) = omega (arith, ints, power.least, power.greatest) in
    let fits_turned : FitsSigned w128 (neg_ℤ c.power_of-half.result.second) = omega (arith, ints, power.least, power.greatest) in
    let neg_is : pos 0 +ℤ neg_ℤ c.power_of-half.result.second ≡ neg_ℤ c.power_of-half.result.second = omega (arith, ints) in
    let low_sum : IsTrue c.is_negative.result ↔ ((negsuc 0 *ℤ c.args.v.now.base +ℤ (negsuc 0 *ℤ c.args.v.now.lo +ℤ (c.power_of-half.result.first *ℤ c.power_of-half.result.second +ℤ (c.power_of-half.result.more *ℤ c.power_of-half.result.second +ℤ pos 0)))) <ℤ pos 0) = simp (to_z-of_z, neg_is) at c.is_negative.ensures in
    let low_not = tells_not c.is_negative.result (negsuc 0 *ℤ c.args.v.now.base +ℤ (negsuc 0 *ℤ c.args.v.now.lo +ℤ (c.power_of-half.result.first *ℤ c.power_of-half.result.second +ℤ (c.power_of-half.result.more *ℤ c.power_of-half.result.second +ℤ pos 0)))) low_sum in
    let low : IsTrue (not c.is_negative.result) ↔ (least c.args.v.now ≤ℤ neg_ℤ (pos (half c.args.bits))) = (λ h. let above = low_not.0 h in omega (arith, ints, above, power.value), λ h. low_not.1 (omega (arith, ints, h, power.value))) in
    let times_first = times_neg c.power_of-half.result.first c.power_of-half.result.second in
    let times_more = times_neg c.power_of-half.result.more c.power_of-half.result.second in
    let high_sum : IsTrue c.is_negative-2.result ↔ ((pos 1 *ℤ c.args.v.now.base +ℤ (pos 1 *ℤ c.args.v.now.hi +ℤ (c.power_of-half.result.first *ℤ neg_ℤ c.power_of-half.result.second +ℤ (c.power_of-half.result.more *ℤ neg_ℤ c.power_of-half.result.second +ℤ pos 0)))) <ℤ pos 0) = simp (to_z-of_z, neg_is) at c.is_negative-2.ensures in
    let high_not = tells_not c.is_negative-2.result (pos 1 *ℤ c.args.v.now.base +ℤ (pos 1 *ℤ c.args.v.now.hi +ℤ (c.power_of-half.result.first *ℤ neg_ℤ c.power_of-half.result.second +ℤ (c.power_of-half.result.more *ℤ neg_ℤ c.power_of-half.result.second +ℤ pos 0)))) high_sum in
    let high : IsTrue (not c.is_negative-2.result) ↔ (neg_ℤ (pos (half c.args.bits)) ≤ℤ greatest c.args.v.now) = (λ h. let above = high_not.0 h in omega (arith, ints, above, power.value, times_first, times_more), λ h. high_not.1 (omega (arith, ints, h, power.value, times_first, times_more))) in
    then_tells c.is_negative.result (not c.is_negative-2.result) low high (λ x. x, λ x. x) c.if-is_negative.false
