use Rattle.std.proofs.Common.{rules, refl, FitsSigned, arith}
use Rattle.std.specs.Prelude.{◌-ℤ◌}
use Rattle.std.specs.Int.{w128}
use Rattle.std.proofs.lemmas.Int.{to_z-of_z, ints}
use Rattle.po_arith.proofs.Sizes.{fits_wide}
use Rattle.po_interval.proofs.operations.un_outcomes.Goals as goal

pub returns-in-Not : goal.returns-in-Not
returns-in-Not c =
    let lo : FitsSigned w128 c.args.r.now.lo = search rules in
    let hi : FitsSigned w128 c.args.r.now.hi = search rules in
    let from : FitsSigned w128 c.complement_from-from.result = search rules in
    let low = c.requires.r.low in
    let up = c.requires.r.up in
    let high = c.requires.r.high in
    let least = c.complement_from-from.ensures.low in
    let most = c.complement_from-from.ensures.high in
    let first : FitsSigned w128 (c.complement_from-from.result -ℤ c.args.r.now.hi) = fits_wide _ (omega (arith, ints)) (omega (arith, ints)) in
    let second : FitsSigned w128 (c.complement_from-from.result -ℤ c.args.r.now.lo) = fits_wide _ (omega (arith, ints)) (omega (arith, ints)) in
    simp to_z-of_z (rw (c.in-Not.is, c.complement_from-from.ensures.value) refl)
