use Rattle.std.proofs.Common.{rules, ◌≡◌, ◌-◌, ◌+◌, ◌↔◌, arith, sym, ap, ◌∙◌, subst, length, drop, suc, get_or, FitsSigned, to_z-of_z}
use Rattle.std.specs.Prelude.{pos, ◌<ℤ◌, IsTrue}
use Rattle.std.specs.Int.{w128}
use Rattle.std.proofs.lemmas.Option.{slice_get-get_or}
use Rattle.po_holds.specs.Exact.{AreAfter, total, whole, number}
use Rattle.po_holds.proofs.Sums.{after_more, total_more, turned}
use Rattle.po_holds.proofs.exact.is_negative.Goals as goal

pub plus-sum-requires-clause-few : goal.plus-sum-requires-clause-few
plus-sum-requires-clause-few c = after_more (length c.args.products.now - c.loop-left.left) 16 c.loop-left.sum (omega (arith, c.requires)) c.loop-left.invariant.after

pub is_below_zero-requires : goal.is_below_zero-requires
is_below_zero-requires c = after_more (length c.args.products.now - c.loop-left.left) 16 c.loop-left.sum (omega (arith, c.requires)) c.loop-left.invariant.after

pub loop-left-preserved : goal.loop-left-preserved
loop-left-preserved c =
    let there = slice_get-get_or c.args.products.now (c.loop-left.left - 1) (pos 0, pos 0) (omega (arith, c.loop-left-test.true, c.loop-left.invariant.within)) in
    let back : suc (c.loop-left.left - 1) ≡ c.loop-left.left = omega (arith, c.loop-left-test.true) in
    let more = total_more c.args.products.now (c.loop-left.left - 1) (get_or c.args.products.now (c.loop-left.left - 1) (pos 0, pos 0)) there in
    let fits_x : FitsSigned w128 (get_or c.args.products.now (c.loop-left.left - 1) (pos 0, pos 0)).0 = search rules in
    let fits_y : FitsSigned w128 (get_or c.args.products.now (c.loop-left.left - 1) (pos 0, pos 0)).1 = search rules in
    let x : number c.digits_of.result ≡ (get_or c.args.products.now (c.loop-left.left - 1) (pos 0, pos 0)).0 = simp to_z-of_z at c.digits_of.ensures.value in
    let y : number c.digits_of-in-loop-left.result ≡ (get_or c.args.products.now (c.loop-left.left - 1) (pos 0, pos 0)).1 = simp to_z-of_z at c.digits_of-in-loop-left.ensures.value in
    let after = c.plus-sum.ensures.after (length c.args.products.now - c.loop-left.left) c.loop-left.invariant.after in
    let count : (length c.args.products.now - c.loop-left.left) + 1 ≡ length c.args.products.now - (c.loop-left.left - 1) = omega (arith, c.loop-left-test.true, c.loop-left.invariant.within) in
    record {
      within = omega (arith, c.loop-left.invariant.within);
      sum = c.plus-sum.ensures.sum ∙ turned (whole c.loop-left.sum) (number c.digits_of.result) (number c.digits_of-in-loop-left.result) _ _ _ _ x y (c.loop-left.invariant.sum ∙ ap (λ k. total (drop k c.args.products.now)) (sym back)) more;
      after = subst (λ n. AreAfter n c.plus-sum.result) count after;
    }

pub returns : goal.returns
returns c =
    let start : c.loop-left.left ≡ 0 = omega (arith, c.loop-left-test.false) in
    let sum : whole c.loop-left.sum ≡ total c.args.products.now = c.loop-left.invariant.sum ∙ ap (λ k. total (drop k c.args.products.now)) start in
    subst (λ z. IsTrue c.is_below_zero.result ↔ z <ℤ pos 0) sum c.is_below_zero.ensures
