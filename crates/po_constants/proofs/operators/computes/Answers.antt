use Rattle.std.proofs.Common.{rules, FitsSigned}
use Rattle.std.specs.Prelude.{◌+ℤ◌, ◌-ℤ◌}
use Rattle.std.specs.Int.{w128}
use Rattle.std.proofs.lemmas.Int.{to_z-of_z}
use Rattle.po_arith.proofs.Sizes.{sum_fits, difference_fits}
use Rattle.po_typed.specs.Constants.{conjoined, disjoined, differing}
use Rattle.po_constants.proofs.Results.{finds_sum, finds_difference, finds_product}
use Rattle.po_constants.proofs.operators.computes.Goals as goal

pub returns-in-Add : goal.returns-in-Add
returns-in-Add c =
    let v = c.ranges.v in
    let w = c.ranges.w in
    let fits : FitsSigned w128 (c.args.v +ℤ c.args.w) = sum_fits c.args.t c.args.v c.args.w c.requires.t c.requires.v c.requires.w in
    rw c.in-Add.is (finds_sum c.args.t c.args.v c.args.w c.kept.result (simp to_z-of_z at c.kept.ensures.exact))

pub returns-in-Sub : goal.returns-in-Sub
returns-in-Sub c =
    let v = c.ranges.v in
    let w = c.ranges.w in
    let fits : FitsSigned w128 (c.args.v -ℤ c.args.w) = difference_fits c.args.t c.args.v c.args.w c.requires.t c.requires.v c.requires.w in
    rw c.in-Sub.is (finds_difference c.args.t c.args.v c.args.w c.kept-in-Sub.result (simp to_z-of_z at c.kept-in-Sub.ensures.exact))

pub returns-in-Mul : goal.returns-in-Mul
returns-in-Mul c =
    let v = c.ranges.v in
    let w = c.ranges.w in
    rw c.in-Mul.is (finds_product c.args.t c.args.v c.args.w c.product.result (simp to_z-of_z at c.product.ensures))

pub returns-in-And : goal.returns-in-And
returns-in-And c =
    let v = c.ranges.v in
    let w = c.ranges.w in
    let r : FitsSigned w128 c.bits_and.result = search rules in
    simp to_z-of_z (rw c.in-And.is (conjoined c.args.t c.args.v c.args.w c.bits_and.result (simp to_z-of_z at c.bits_and.ensures)))

pub returns-in-Or : goal.returns-in-Or
returns-in-Or c =
    let v = c.ranges.v in
    let w = c.ranges.w in
    let r : FitsSigned w128 c.bits_or.result = search rules in
    simp to_z-of_z (rw c.in-Or.is (disjoined c.args.t c.args.v c.args.w c.bits_or.result (simp to_z-of_z at c.bits_or.ensures)))

pub returns-in-Xor : goal.returns-in-Xor
returns-in-Xor c =
    let v = c.ranges.v in
    let w = c.ranges.w in
    let r : FitsSigned w128 c.bits_xor.result = search rules in
    simp to_z-of_z (rw c.in-Xor.is (differing c.args.t c.args.v c.args.w c.bits_xor.result (simp to_z-of_z at c.bits_xor.ensures)))
