use Rattle.std.proofs.Common.{rules, ◌↔◌, arith, FitsSigned, to_z-of_z}
use Rattle.std.specs.Prelude.{pos, negsuc, ◌+ℤ◌, ◌*ℤ◌, ◌<ℤ◌, IsTrue}
use Rattle.std.specs.Int.{w128}
use Rattle.std.proofs.lemmas.Int.{ints}
use Rattle.po_holds.specs.Choosing.{least}
use Rattle.po_holds.proofs.Sums.{at_least}
use Rattle.po_holds.proofs.Widths.{above_zero}
use Rattle.po_holds.proofs.over.miss_zero.Goals as goal

pub returns : goal.returns
returns c =
    let fits_0 : FitsSigned w128 c.args.r.now.base = search rules in
    let fits_1 : FitsSigned w128 c.args.r.now.lo = search rules in
    let fits_2 : FitsSigned w128 c.args.r.now.hi = search rules in
    let low : IsTrue c.is_negative.result ↔ ((pos 1 *ℤ c.args.r.now.base +ℤ (pos 1 *ℤ c.args.r.now.hi +ℤ pos 0)) <ℤ pos 0) = simp to_z-of_z at c.is_negative.ensures in
    let high : IsTrue c.is_negative-2.result ↔ ((negsuc 0 *ℤ c.args.r.now.base +ℤ (negsuc 0 *ℤ c.args.r.now.lo +ℤ pos 0)) <ℤ pos 0) = simp to_z-of_z at c.is_negative-2.ensures in
    let up = at_least c.is_negative.result (pos 1 *ℤ c.args.r.now.base +ℤ (pos 1 *ℤ c.args.r.now.hi +ℤ pos 0)) low c.if-is_negative.false in
    let above : IsTrue c.is_negative-2.result ↔ (pos 0 <ℤ least c.args.r.now) = (λ h. let below = high.0 h in omega (arith, ints, below), λ h. high.1 (omega (arith, ints, h))) in
    above_zero c.args.r.now c.is_negative-2.result c.requires (omega (arith, ints, up)) above
