use Rattle.std.proofs.Common.{FitsSigned}
use Rattle.std.specs.Prelude.{◌*ℤ◌}
use Rattle.std.specs.Int.{w128}
use Rattle.std.proofs.lemmas.Int.{to_z-of_z}
use Rattle.po_arith.proofs.Sizes.{product_fits}
use Rattle.po_interval.proofs.results.product.Goals as goal

pub returns-then-t : goal.returns-then-t
returns-then-t c =
    let v = c.ranges.v in
    let w = c.ranges.w in
    let fits : FitsSigned w128 (c.args.v *ℤ c.args.w) = product_fits c.args.t c.args.v c.args.w c.requires.t c.if-t.true c.requires.v c.requires.w in
    simp to_z-of_z at c.conv.ensures
