use Rattle.std.proofs.Common.{FitsSigned, rules}
use mir.Syntax.{w128}
use Rattle.std.proofs.lemmas.Int.{to_z-of_z}
use Rattle.po_app.proofs.Products.{corners_fit}
use Rattle.po_app.specs.Tests.{and_then, and_else}
use Rattle.po_app.proofs.range.products_fit.Goals as goal

pub returns-then-low : goal.returns-then-low
returns-then-low c =
    let bl : FitsSigned w128 c.args.b.now.lo = search rules in
    let bh : FitsSigned w128 c.args.b.now.hi = search rules in
    let low = simp to_z-of_z at c.ends_times_fit-low.ensures in
    let high = simp to_z-of_z at c.ends_times_fit-high.ensures in
    and_then _ _ _ _ _ c.if-low.true low high (corners_fit c.args.bits c.args.a.now c.args.b.now)

pub returns-else-low : goal.returns-else-low
returns-else-low c =
    let bl : FitsSigned w128 c.args.b.now.lo = search rules in
    let low = simp to_z-of_z at c.ends_times_fit-low.ensures in
    and_else _ _ _ _ c.if-low.false low (corners_fit c.args.bits c.args.a.now c.args.b.now)
