use Rattle.std.proofs.Common.{FitsSigned, refl, rules}
use mir.Syntax.{w128}
use Rattle.std.proofs.lemmas.Int.{to_z-of_z}
use Rattle.po_app.specs.Tests.{and_then}
use Rattle.po_app.proofs.range.ends_times_fit.Goals as goal

pub returns-then-fits : goal.returns-then-fits
returns-then-fits c =
    let k : FitsSigned w128 c.args.k = c.ranges.k in
    let al : FitsSigned w128 c.args.a.now.lo = search rules in
    let ah : FitsSigned w128 c.args.a.now.hi = search rules in
    let low = simp to_z-of_z at c.checked_mul.ensures in
    let high = simp to_z-of_z at c.checked_mul-then-fits.ensures in
    and_then _ _ _ _ _ c.if-fits.true (c.fits.ensures _ low) (c.fits-then-fits.ensures _ high) refl
