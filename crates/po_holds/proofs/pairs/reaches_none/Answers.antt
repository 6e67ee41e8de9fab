use Rattle.std.proofs.Common.{rules, ◌↔◌, arith, FitsSigned, to_z-of_z}
use Rattle.std.specs.Prelude.{pos, negsuc, ◌+ℤ◌, ◌*ℤ◌, ◌≤ℤ◌, ◌<ℤ◌, not, IsTrue}
use Rattle.std.specs.Int.{w128}
use Rattle.std.proofs.lemmas.Int.{ints}
use Rattle.po_holds.specs.Choosing.{greatest}
use Rattle.po_holds.proofs.Sums.{tells_not}
use Rattle.po_holds.proofs.Chosen.{through}
use Rattle.po_holds.proofs.Both as both
use Rattle.po_holds.proofs.pairs.reaches_none.Goals as goal

pub returns : goal.returns
returns c =
    let fits_0 : FitsSigned w128 c.args.n.now.base = search rules in
    let fits_1 : FitsSigned w128 c.args.n.now.hi = search rules in
    let low_sum : IsTrue c.is_negative.result ↔ ((negsuc 0 *ℤ c.args.n.now.base +ℤ (negsuc 0 *ℤ c.args.n.now.hi +ℤ pos 0)) <ℤ pos 0) = simp to_z-of_z at c.is_negative.ensures in
    let low_not = tells_not c.is_negative.result (negsuc 0 *ℤ c.args.n.now.base +ℤ (negsuc 0 *ℤ c.args.n.now.hi +ℤ pos 0)) low_sum in
    let low : IsTrue (not c.is_negative.result) ↔ (greatest c.args.n.now ≤ℤ pos 0) = (λ h. let above = low_not.0 h in omega (arith, ints, above), λ h. low_not.1 (omega (arith, ints, h))) in
    through low (both.none_reached c.args.n.now c.requires)
