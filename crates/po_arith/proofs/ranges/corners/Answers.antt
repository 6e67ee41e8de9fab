use Rattle.std.proofs.Common.{rules, refl, FitsSigned}
use Rattle.std.specs.Int.{w128}
use Rattle.std.proofs.lemmas.Int.{to_z-of_z}
use Rattle.po_arith.proofs.ranges.corners.Goals as goal

pub returns : goal.returns
returns c =
    let p = c.ranges.p in
    let q = c.ranges.q in
    let u = c.ranges.u in
    let v = c.ranges.v in
    let low_first : FitsSigned w128 c.min.result = search rules in
    let low_second : FitsSigned w128 c.min-2.result = search rules in
    let low_both : FitsSigned w128 c.min-3.result = search rules in
    let high_first : FitsSigned w128 c.max.result = search rules in
    let high_second : FitsSigned w128 c.max-2.result = search rules in
    let high_both : FitsSigned w128 c.max-3.result = search rules in
    let least_first = simp to_z-of_z at c.min.ensures.value in
    let least_second = simp to_z-of_z at c.min-2.ensures.value in
    let least = simp to_z-of_z at c.min-3.ensures.value in
    let greatest_first = simp to_z-of_z at c.max.ensures.value in
    let greatest_second = simp to_z-of_z at c.max-2.ensures.value in
    let greatest = simp to_z-of_z at c.max-3.ensures.value in
    simp to_z-of_z (rw (least, least_first, least_second, greatest, greatest_first, greatest_second) refl)
