use Rattle.std.proofs.Common.{rules, ◌↔◌, arith, FitsSigned, to_z-of_z}
use Rattle.std.specs.Prelude.{pos, neg_ℤ, ◌+ℤ◌, ◌*ℤ◌, ◌<ℤ◌, IsTrue}
use Rattle.std.specs.Int.{w128}
use Rattle.std.proofs.lemmas.Int.{ints}
use Rattle.po_holds.proofs.over.are_below.Goals as goal

pub returns : goal.returns
returns c =
    let fits_0 : FitsSigned w128 c.args.v.now.base = search rules in
    let fits_1 : FitsSigned w128 c.args.v.now.hi = search rules in
    let fits_p0 : FitsSigned w128 c.power_of-power.result.first = search rules in
    let fits_p1 : FitsSigned w128 c.power_of-power.result.more = search rules in
    let fits_p2 : FitsSigned w128 c.power_of-power.result.second = search rules in
    let power = c.power_of-power.ensures in
    let fits_neg : FitsSigned w128 (neg_ℤ c.power_of-power.result.second) = omega (arith, ints, power.least, power.greatest) in
    let sum : IsTrue c.is_negative.result ↔ ((pos 1 *ℤ c.args.v.now.base +ℤ (pos 1 *ℤ c.args.v.now.hi +ℤ (c.power_of-power.result.first *ℤ c.power_of-power.result.second +ℤ (c.power_of-power.result.more *ℤ c.power_of-power.result.second +ℤ pos 0)))) <ℤ pos 0) = simp to_z-of_z at c.is_negative.ensures in
    (λ h. let below = sum.0 h in omega (arith, ints, below, power.value), λ h. sum.1 (omega (arith, ints, h, power.value)))
