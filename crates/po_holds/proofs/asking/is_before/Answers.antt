use Rattle.std.proofs.Common.{rules, ◌≡◌, ◌↔◌, arith, FitsSigned, to_z-of_z}
use Rattle.std.specs.Prelude.{pos, negsuc, neg_ℤ, ◌+ℤ◌, ◌*ℤ◌, ◌<ℤ◌, IsTrue}
use Rattle.std.specs.Int.{w128}
use Rattle.std.proofs.lemmas.Int.{ints, to_z_pos}
use Rattle.std.specs.Int.{w64}
use mir.Val.{to_z}
use Rattle.po_holds.proofs.Asked.{before}
use Rattle.po_holds.proofs.asking.is_before.Goals as goal

pub returns : goal.returns
returns c =
    let fits_0 : FitsSigned w128 c.args.end.now.base = search rules in
    let fits_1 : FitsSigned w128 c.args.end.now.moved = search rules in
    let fits_2 : FitsSigned w128 c.args.end.now.number = search rules in
    let fits_3 : FitsSigned w128 c.args.end.now.added = search rules in
    let small_i : FitsSigned w128 (pos c.args.i) = omega (arith, ints, c.ranges.i) in
    let narrow : FitsSigned w64 c.args.end.now.factor = search rules in
    let fits_factor : FitsSigned w128 c.args.end.now.factor = omega (arith, ints) in
    let fits_times : FitsSigned w128 (pos 0 +ℤ neg_ℤ c.args.end.now.factor) = omega (arith, ints) in
    let fits_turned : FitsSigned w128 (neg_ℤ c.args.end.now.factor) = omega (arith, ints, narrow) in
    let neg_is : pos 0 +ℤ neg_ℤ c.args.end.now.factor ≡ neg_ℤ c.args.end.now.factor = omega (arith, ints) in
    let i_is : to_z w128 c.args.i ≡ pos c.args.i = to_z_pos w128 c.args.i (omega (arith, c.ranges.i)) in
    let sum : IsTrue c.is_negative.result ↔ ((pos 1 *ℤ pos c.args.i +ℤ (negsuc 0 *ℤ c.args.end.now.base +ℤ (negsuc 0 *ℤ c.args.end.now.moved +ℤ (neg_ℤ c.args.end.now.factor *ℤ c.args.end.now.number +ℤ (neg_ℤ c.args.end.now.factor *ℤ c.args.end.now.added +ℤ pos 0))))) <ℤ pos 0) = simp (to_z-of_z, neg_is, i_is) at c.is_negative.ensures in
    before c.args.i c.args.end.now c.is_negative.result sum
