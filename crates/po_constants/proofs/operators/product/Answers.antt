use Rattle.std.proofs.Common.{rules, FitsSigned, ap}
use Rattle.std.specs.Prelude.{◌*ℤ◌, pos}
use Rattle.std.specs.Int.{w128}
use Rattle.std.proofs.lemmas.Int.{to_z-of_z}
use Rattle.po_arith.proofs.Sizes.{product_fits}
use Rattle.po_constants.proofs.Results.{left_of_product}
use Rattle.po_constants.proofs.operators.product.Goals as goal

pub returns-then-t : goal.returns-then-t
returns-then-t c =
    let v = c.ranges.v in
    let w = c.ranges.w in
    let fits : FitsSigned w128 (c.args.v *ℤ c.args.w) = product_fits c.args.t c.args.v c.args.w c.requires.t c.if-t.true c.requires.v c.requires.w in
    simp to_z-of_z at c.kept.ensures.exact

pub returns-else-t : goal.returns-else-t
returns-else-t c =
    let v = c.ranges.v in
    let w = c.ranges.w in
    let r : FitsSigned w128 c.product_modulo.result = search rules in
    let m = simp to_z-of_z at c.unsigned_abs.ensures.value in
    let n = simp to_z-of_z at c.unsigned_abs-else-t.ensures.value in
    simp to_z-of_z (rw c.product_modulo.ensures (left_of_product c.args.t c.args.v c.args.w (pos c.unsigned_abs.result) (pos c.unsigned_abs-else-t.result) c.if-t.false c.requires.v c.requires.w (ap pos m) (ap pos n)))
