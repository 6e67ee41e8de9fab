use Rattle.std.proofs.Common.{rules, ◌↔◌, arith, FitsSigned, to_z-of_z}
use Rattle.std.specs.Prelude.{pos, negsuc, ◌+ℤ◌, ◌*ℤ◌, ◌≤ℤ◌, ◌<ℤ◌, not, IsTrue}
use Rattle.std.specs.Int.{w128}
use Rattle.std.proofs.lemmas.Int.{ints}
use Rattle.po_holds.specs.Choosing.{least, greatest}
use Rattle.po_holds.proofs.Telling.{first_met, then_tells}
use Rattle.po_holds.proofs.Sums.{tells_not}
use Rattle.po_holds.proofs.Widths.{all_lie}
use Rattle.po_holds.proofs.over.lie_in.Goals as goal

pub returns-then-is_negative : goal.returns-then-is_negative
returns-then-is_negative c =
    let fits_0 : FitsSigned w128 c.args.r.now.base = search rules in
    let fits_1 : FitsSigned w128 c.args.r.now.lo = search rules in
    let fits_3 : FitsSigned w128 c.args.lo.now = search rules in
    let low_sum : IsTrue c.is_negative.result ↔ ((pos 1 *ℤ c.args.r.now.base +ℤ (pos 1 *ℤ c.args.r.now.lo +ℤ (negsuc 0 *ℤ c.args.lo.now +ℤ pos 0))) <ℤ pos 0) = simp to_z-of_z at c.is_negative.ensures in
    let low_not = tells_not c.is_negative.result (pos 1 *ℤ c.args.r.now.base +ℤ (pos 1 *ℤ c.args.r.now.lo +ℤ (negsuc 0 *ℤ c.args.lo.now +ℤ pos 0))) low_sum in
    let low : IsTrue (not c.is_negative.result) ↔ (c.args.lo.now ≤ℤ least c.args.r.now) = (λ h. let above = low_not.0 h in omega (arith, ints, above), λ h. low_not.1 (omega (arith, ints, h))) in
    first_met c.is_negative.result low (all_lie c.args.r.now c.args.lo.now c.args.hi.now c.requires) c.if-is_negative.true

pub returns : goal.returns
returns c =
    let fits_0 : FitsSigned w128 c.args.r.now.base = search rules in
    let fits_1 : FitsSigned w128 c.args.r.now.lo = search rules in
    let fits_2 : FitsSigned w128 c.args.r.now.hi = search rules in
    let fits_3 : FitsSigned w128 c.args.lo.now = search rules in
    let fits_4 : FitsSigned w128 c.args.hi.now = search rules in
    let low_sum : IsTrue c.is_negative.result ↔ ((pos 1 *ℤ c.args.r.now.base +ℤ (pos 1 *ℤ c.args.r.now.lo +ℤ (negsuc 0 *ℤ c.args.lo.now +ℤ pos 0))) <ℤ pos 0) = simp to_z-of_z at c.is_negative.ensures in
    let low_not = tells_not c.is_negative.result (pos 1 *ℤ c.args.r.now.base +ℤ (pos 1 *ℤ c.args.r.now.lo +ℤ (negsuc 0 *ℤ c.args.lo.now +ℤ pos 0))) low_sum in
    let low : IsTrue (not c.is_negative.result) ↔ (c.args.lo.now ≤ℤ least c.args.r.now) = (λ h. let above = low_not.0 h in omega (arith, ints, above), λ h. low_not.1 (omega (arith, ints, h))) in
    let high_sum : IsTrue c.is_negative-2.result ↔ ((pos 1 *ℤ c.args.hi.now +ℤ (negsuc 0 *ℤ c.args.r.now.base +ℤ (negsuc 0 *ℤ c.args.r.now.hi +ℤ pos 0))) <ℤ pos 0) = simp to_z-of_z at c.is_negative-2.ensures in
    let high_not = tells_not c.is_negative-2.result (pos 1 *ℤ c.args.hi.now +ℤ (negsuc 0 *ℤ c.args.r.now.base +ℤ (negsuc 0 *ℤ c.args.r.now.hi +ℤ pos 0))) high_sum in
    let high : IsTrue (not c.is_negative-2.result) ↔ (greatest c.args.r.now ≤ℤ c.args.hi.now) = (λ h. let above = high_not.0 h in omega (arith, ints, above), λ h. high_not.1 (omega (arith, ints, h))) in
    then_tells c.is_negative.result (not c.is_negative-2.result) low high (all_lie c.args.r.now c.args.lo.now c.args.hi.now c.requires) c.if-is_negative.false
