use Rattle.std.proofs.Common.{rules, arith, FitsSigned}
use Rattle.std.specs.Prelude.{◌-ℤ◌, ◌≤ℤ◌, ◌<ℤ◌}
use Rattle.std.specs.Int.{w128}
use Rattle.std.proofs.lemmas.Int.{to_z-of_z, ints}
use Rattle.po_arith.proofs.Wrapped.{wrapped_low, wrapped_high, rest_fits}
use Rattle.po_arith.proofs.types.wrap.Goals as goal

pub returns-then-rest-limits : goal.returns-then-rest-limits
returns-then-rest-limits c =
    let v_fits = c.ranges.v in
    let r_fits : FitsSigned w128 c.rem_euclid-rest.result = search rules in
    let m_fits : FitsSigned w128 c.power-count.result = search rules in
    let high_fits : FitsSigned w128 c.limits.result.hi = search rules in
    let value = simp to_z-of_z at c.rem_euclid-rest.ensures.value in
    let test = simp to_z-of_z at c.if-rest-limits.true in
    let below : c.rem_euclid-rest.result ≤ℤ c.limits.result.hi = grind (arith, ints) in
    simp to_z-of_z (wrapped_low c.args.t c.args.v c.rem_euclid-rest.result c.power-count.result c.limits.result.hi c.requires c.power-count.ensures c.limits.ensures.greatest value below)

pub returns : goal.returns
returns c =
    let v_fits = c.ranges.v in
    let r_fits : FitsSigned w128 c.rem_euclid-rest.result = search rules in
    let m_fits : FitsSigned w128 c.power-count.result = search rules in
    let high_fits : FitsSigned w128 c.limits.result.hi = search rules in
    let value = simp to_z-of_z at c.rem_euclid-rest.ensures.value in
    let test = simp to_z-of_z at c.if-rest-limits.false in
    let above : c.limits.result.hi <ℤ c.rem_euclid-rest.result = grind (arith, ints) in
    let rest_fits : FitsSigned w128 (c.rem_euclid-rest.result -ℤ c.power-count.result) = rest_fits c.args.t c.args.v c.rem_euclid-rest.result c.power-count.result c.power-count.ensures value r_fits m_fits in
    simp to_z-of_z (wrapped_high c.args.t c.args.v c.rem_euclid-rest.result c.power-count.result c.limits.result.hi c.requires c.power-count.ensures c.limits.ensures.greatest value above)
