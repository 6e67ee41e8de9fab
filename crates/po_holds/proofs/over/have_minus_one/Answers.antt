use Rattle.std.proofs.Common.{rules, ◌↔◌, arith, FitsSigned, to_z-of_z}
use Rattle.std.specs.Prelude.{pos, negsuc, ◌+ℤ◌, ◌*ℤ◌, ◌≤ℤ◌, ◌<ℤ◌, not, IsTrue}
use Rattle.std.specs.Int.{w128}
use Rattle.std.proofs.lemmas.Int.{ints}
use Rattle.po_holds.specs.Choosing.{least, greatest}
use Rattle.po_holds.proofs.Telling.{first_met, then_tells}
use Rattle.po_holds.proofs.Sums.{tells_not}
use Rattle.po_holds.proofs.over.have_minus_one.Goals as goal

pub returns-then-is_negative : goal.returns-then-is_negative
returns-then-is_negative c =
    let fits_0 : FitsSigned w128 c.args.w.now.base = search rules in
    let fits_1 : FitsSigned w128 c.args.w.now.lo = search rules in
    let low_sum : IsTrue c.is_negative.result ↔ ((negsuc 0 *ℤ c.args.w.now.base +ℤ (negsuc 0 *ℤ c.args.w.now.lo +ℤ (negsuc 0 *ℤ pos 1 +ℤ pos 0))) <ℤ pos 0) = simp to_z-of_z at c.is_negative.ensures in
    let low_not = tells_not c.is_negative.result (negsuc 0 *ℤ c.args.w.now.base +ℤ (negsuc 0 *ℤ c.args.w.now.lo +ℤ (negsuc 0 *ℤ pos 1 +ℤ pos 0))) low_sum in
    let low : IsTrue (not c.is_negative.result) ↔ (least c.args.w.now ≤ℤ negsuc 0) = (λ h. let above = low_not.0 h in omega (arith, ints, above), λ h. low_not.1 (omega (arith, ints, h))) in
    first_met c.is_negative.result low (λ x. x, λ x. x) c.if-is_negative.true

pub returns : goal.returns
returns c =
    let fits_0 : FitsSigned w128 c.args.w.now.base = search rules in
    let fits_1 : FitsSigned w128 c.args.w.now.lo = search rules in
    let fits_2 : FitsSigned w128 c.args.w.now.hi = search rules in
    let low_sum : IsTrue c.is_negative.result ↔ ((negsuc 0 *ℤ c.args.w.now.base +ℤ (negsuc 0 *ℤ c.args.w.now.lo +ℤ (negsuc 0 *ℤ pos 1 +ℤ pos 0))) <ℤ pos 0) = simp to_z-of_z at c.is_negative.ensures in
    let low_not = tells_not c.is_negative.result (negsuc 0 *ℤ c.args.w.now.base +ℤ (negsuc 0 *ℤ c.args.w.now.lo +ℤ (negsuc 0 *ℤ pos 1 +ℤ pos 0))) low_sum in
    let low : IsTrue (not c.is_negative.result) ↔ (least c.args.w.now ≤ℤ negsuc 0) = (λ h. let above = low_not.0 h in omega (arith, ints, above), λ h. low_not.1 (omega (arith, ints, h))) in
    let high_sum : IsTrue c.is_negative-2.result ↔ ((pos 1 *ℤ c.args.w.now.base +ℤ (pos 1 *ℤ c.args.w.now.hi +ℤ (pos 1 *ℤ pos 1 +ℤ pos 0))) <ℤ pos 0) = simp to_z-of_z at c.is_negative-2.ensures in
    let high_not = tells_not c.is_negative-2.result (pos 1 *ℤ c.args.w.now.base +ℤ (pos 1 *ℤ c.args.w.now.hi +ℤ (pos 1 *ℤ pos 1 +ℤ pos 0))) high_sum in
    let high : IsTrue (not c.is_negative-2.result) ↔ (negsuc 0 ≤ℤ greatest c.args.w.now) = (λ h. let above = high_not.0 h in omega (arith, ints, above), λ h. high_not.1 (omega (arith, ints, h))) in
    then_tells c.is_negative.result (not c.is_negative-2.result) low high (λ x. x, λ x. x) c.if-is_negative.false
