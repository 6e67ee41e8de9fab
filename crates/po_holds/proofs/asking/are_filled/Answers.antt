use Rattle.std.proofs.Common.{rules, ◌≡◌, ◌↔◌, arith, refl, FitsSigned, to_z-of_z}
use Rattle.std.specs.Prelude.{pos, neg_ℤ, ◌+ℤ◌, ◌*ℤ◌, ◌<ℤ◌, true, false, IsTrue}
use Rattle.std.specs.Int.{w128}
use Rattle.std.proofs.lemmas.Int.{ints}
use Rattle.po_holds.specs.Choosing.{least, greatest}
use Rattle.std.specs.Int.{w64}
use Rattle.po_holds.specs.Asking.{IsLeast, IsGreatest}
use Rattle.po_memory.specs.Blocks.{HaveValues}
use Rattle.po_holds.proofs.Chosen.{through}
use Rattle.po_holds.proofs.Asked.{none_filled, all_filled, less_tells, not_tells_up}
use Rattle.po_holds.proofs.asking.are_filled.Goals as goal

pub returns-then-not-is_negative : goal.returns-then-not-is_negative
returns-then-not-is_negative c =
    let fits_3 : FitsSigned w128 c.args.lo.now.base = search rules in
    let fits_4 : FitsSigned w128 c.args.hi.now.base = search rules in
    let narrow : FitsSigned w64 c.args.factor = search rules in
    let fits_k : FitsSigned w128 c.args.factor = omega (arith, ints, narrow) in
    let fits_neg : FitsSigned w128 (pos 0 +ℤ neg_ℤ c.args.factor) = omega (arith, ints, narrow) in
    let fits_turned : FitsSigned w128 (neg_ℤ c.args.factor) = omega (arith, ints, narrow) in
    let neg_is : pos 0 +ℤ neg_ℤ c.args.factor ≡ neg_ℤ c.args.factor = omega (arith, ints) in
    let fits_low : FitsSigned w128 c.least_end-low.result = search rules in
    let fits_high : FitsSigned w128 c.greatest_end-high.result = search rules in
    let low_is : IsLeast c.args.factor c.args.lo.now c.least_end-low.result = simp to_z-of_z at c.least_end-low.ensures in
    let high_is : IsGreatest c.args.factor c.args.hi.now c.greatest_end-high.result = simp to_z-of_z at c.greatest_end-high.ensures in
    let sum : IsTrue c.is_negative.result ↔ ((c.args.factor *ℤ c.args.lo.now.base +ℤ (c.args.factor *ℤ c.least_end-low.result +ℤ (neg_ℤ c.args.factor *ℤ c.args.hi.now.base +ℤ (neg_ℤ c.args.factor *ℤ c.greatest_end-high.result +ℤ pos 0)))) <ℤ pos 0) = simp (to_z-of_z, neg_is) at c.is_negative.ensures in
    let none : c.is_negative.result ≡ false = search rules in
    let tells = less_tells c.args.factor c.args.lo.now c.args.hi.now c.least_end-low.result c.greatest_end-high.result c.is_negative.result sum in
    (λ h. none_filled c.args.factor c.args.at.now c.args.lo.now c.args.hi.now c.args.c.now c.least_end-low.result c.greatest_end-high.result low_is high_is ((not_tells_up c.args.factor c.args.lo.now c.args.hi.now c.least_end-low.result c.greatest_end-high.result c.is_negative.result tells) none), λ h. refl)

pub returns : goal.returns
returns c =
    let fits_0 : FitsSigned w128 c.args.at.now.base = search rules in
    let fits_1 : FitsSigned w128 c.args.at.now.lo = search rules in
    let fits_2 : FitsSigned w128 c.args.at.now.hi = search rules in
    let fits_3 : FitsSigned w128 c.args.lo.now.base = search rules in
    let fits_4 : FitsSigned w128 c.args.hi.now.base = search rules in
    let narrow : FitsSigned w64 c.args.factor = search rules in
    let fits_k : FitsSigned w128 c.args.factor = omega (arith, ints, narrow) in
    let fits_neg : FitsSigned w128 (pos 0 +ℤ neg_ℤ c.args.factor) = omega (arith, ints, narrow) in
    let fits_turned : FitsSigned w128 (neg_ℤ c.args.factor) = omega (arith, ints, narrow) in
    let neg_is : pos 0 +ℤ neg_ℤ c.args.factor ≡ neg_ℤ c.args.factor = omega (arith, ints) in
    let fits_low : FitsSigned w128 c.least_end-low.result = search rules in
    let fits_high : FitsSigned w128 c.greatest_end-high.result = search rules in
    let low_is : IsLeast c.args.factor c.args.lo.now c.least_end-low.result = simp to_z-of_z at c.least_end-low.ensures in
    let high_is : IsGreatest c.args.factor c.args.hi.now c.greatest_end-high.result = simp to_z-of_z at c.greatest_end-high.ensures in
    let sum : IsTrue c.is_negative.result ↔ ((c.args.factor *ℤ c.args.lo.now.base +ℤ (c.args.factor *ℤ c.least_end-low.result +ℤ (neg_ℤ c.args.factor *ℤ c.args.hi.now.base +ℤ (neg_ℤ c.args.factor *ℤ c.greatest_end-high.result +ℤ pos 0)))) <ℤ pos 0) = simp (to_z-of_z, neg_is) at c.is_negative.ensures in
    let yes : c.is_negative.result ≡ true = search rules in
    let tells = less_tells c.args.factor c.args.lo.now c.args.hi.now c.least_end-low.result c.greatest_end-high.result c.is_negative.result sum in
    let values : IsTrue c.have_values.result ↔ HaveValues (least c.args.at.now +ℤ c.args.factor *ℤ (c.args.lo.now.base +ℤ c.least_end-low.result)) (greatest c.args.at.now +ℤ c.args.factor *ℤ (c.args.hi.now.base +ℤ c.greatest_end-high.result)) c.args.c.now.bytes = simp (to_z-of_z, c.as_slice.ensures) at c.have_values.ensures in
    through values (all_filled c.args.factor c.args.at.now c.args.lo.now c.args.hi.now c.args.c.now c.least_end-low.result c.greatest_end-high.result c.requires.at low_is high_is (tells.0 yes))
