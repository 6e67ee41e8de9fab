use Rattle.std.proofs.Common.{rules, refl, FitsSigned, to_z-of_z}
use Rattle.std.specs.Int.{w128}
use Rattle.po_holds.proofs.Sums.{product_small, fits_product}
use Rattle.po_holds.proofs.exact.product.Goals as goal

pub returns-clause-value : goal.returns-clause-value
returns-clause-value c =
    let fits_x : FitsSigned w128 c.args.x.now = search rules in
    let fits_y : FitsSigned w128 c.args.y.now = search rules in
    let fits = fits_product c.args.x.now c.args.y.now c.requires.x c.requires.y in
    simp to_z-of_z refl

pub returns-clause-small : goal.returns-clause-small
returns-clause-small c =
    let fits_x : FitsSigned w128 c.args.x.now = search rules in
    let fits_y : FitsSigned w128 c.args.y.now = search rules in
    let fits = fits_product c.args.x.now c.args.y.now c.requires.x c.requires.y in
    simp to_z-of_z (product_small c.args.x.now c.args.y.now c.requires.x c.requires.y)
