use Rattle.std.proofs.Common.{rules, ◌↔◌, arith, FitsSigned, to_z-of_z}
use Rattle.std.specs.Prelude.{pos, negsuc, ◌+ℤ◌, ◌*ℤ◌, ◌≤ℤ◌, ◌<ℤ◌, not, IsTrue}
use Rattle.std.specs.Int.{w128}
use Rattle.std.proofs.lemmas.Int.{ints}
use Rattle.po_holds.specs.Choosing.{least, greatest}
use Rattle.po_holds.proofs.Sums.{tells_not}
use Rattle.po_holds.proofs.Chosen.{through}
use Rattle.po_holds.proofs.Both as both
use Rattle.po_holds.proofs.pairs.is_after.Goals as goal

pub returns : goal.returns
returns c =
    let fits_0 : FitsSigned w128 c.args.q.now.base = search rules in
    let fits_1 : FitsSigned w128 c.args.q.now.lo = search rules in
    let fits_2 : FitsSigned w128 c.args.p.now.base = search rules in
    let fits_3 : FitsSigned w128 c.args.p.now.hi = search rules in
    let fits_4 : FitsSigned w128 c.args.n.now.base = search rules in
    let fits_5 : FitsSigned w128 c.args.n.now.hi = search rules in
    let far_sum : IsTrue c.is_negative.result ↔ ((pos 1 *ℤ c.args.q.now.base +ℤ (pos 1 *ℤ c.args.q.now.lo +ℤ (negsuc 0 *ℤ c.args.p.now.base +ℤ (negsuc 0 *ℤ c.args.p.now.hi +ℤ (negsuc 0 *ℤ c.args.n.now.base +ℤ (negsuc 0 *ℤ c.args.n.now.hi +ℤ pos 0)))))) <ℤ pos 0) = simp to_z-of_z at c.is_negative.ensures in
    let far_not = tells_not c.is_negative.result (pos 1 *ℤ c.args.q.now.base +ℤ (pos 1 *ℤ c.args.q.now.lo +ℤ (negsuc 0 *ℤ c.args.p.now.base +ℤ (negsuc 0 *ℤ c.args.p.now.hi +ℤ (negsuc 0 *ℤ c.args.n.now.base +ℤ (negsuc 0 *ℤ c.args.n.now.hi +ℤ pos 0)))))) far_sum in
    let far : IsTrue (not c.is_negative.result) ↔ ((greatest c.args.p.now +ℤ greatest c.args.n.now) ≤ℤ least c.args.q.now) = (λ h. let above = far_not.0 h in omega (arith, ints, above), λ h. far_not.1 (omega (arith, ints, h))) in
    through far (both.all_after c.args.p.now c.args.q.now c.args.n.now c.requires.p c.requires.q c.requires.n)
