use Rattle.std.proofs.Common.{rules, ◌≡◌, refl, FitsSigned, arith}
use Rattle.std.specs.Prelude.{pos, neg_ℤ, ◌+ℤ◌, ◌-ℤ◌}
use Rattle.std.specs.Int.{w128}
use Rattle.std.proofs.lemmas.Int.{to_z-of_z, ints, clamps}
use Rattle.po_arith.proofs.Sizes.{fits_wide}
use Rattle.po_arith.proofs.ranges.most_left.Goals as goal

pub returns-clause-value : goal.returns-clause-value
returns-clause-value c =
    let lo : FitsSigned w128 c.args.s.now.lo = search rules in
    let hi : FitsSigned w128 c.args.s.now.hi = search rules in
    let most : FitsSigned w128 c.max.result = search rules in
    let low = c.requires.low in
    let up = c.requires.up in
    let high = c.requires.high in
    let turned : FitsSigned w128 (pos 0 +ℤ neg_ℤ c.args.s.now.lo) = fits_wide _ (omega (arith, ints)) (omega (arith, ints)) in
    let greatest = simp to_z-of_z at c.max.ensures.value in
    let less : FitsSigned w128 (c.max.result -ℤ pos 1) = fits_wide _ (omega (arith, ints, clamps)) (omega (arith, ints, clamps)) in
    let flat : pos 0 +ℤ neg_ℤ c.args.s.now.lo ≡ neg_ℤ c.args.s.now.lo = omega (arith, ints) in
    simp to_z-of_z (rw (greatest, flat) refl)
