use Rattle.std.proofs.Common.{rules, FitsSigned, ◌<◌, arith}
use Rattle.std.specs.Int.{w128}
use Rattle.std.proofs.lemmas.Int.{to_z-of_z}
use Rattle.po_typed.specs.Constants.{to_the_right}
use Rattle.po_constants.proofs.Results.{finds_shifted}
use Rattle.po_constants.proofs.operators.shifts.Goals as goal

pub returns-in-Shl : goal.returns-in-Shl
returns-in-Shl c =
    let v = c.ranges.v in
    let r : FitsSigned w128 c.to_the_left.result = search rules in
    let few : c.args.n < c.args.t.bits = omega (arith, c.from.ensures) in
    let value = simp to_z-of_z at c.to_the_left.ensures in
    let kept = simp to_z-of_z at c.kept.ensures.exact in
    rw c.in-Shl.is (finds_shifted c.args.t c.args.v c.args.n c.kept.result few (rw (← value) kept))

pub returns-in-Shr : goal.returns-in-Shr
returns-in-Shr c =
    let v = c.ranges.v in
    let r : FitsSigned w128 c.shift_right.result = search rules in
    let few : c.args.n < c.args.t.bits = omega (arith, c.from.ensures) in
    simp to_z-of_z (rw c.in-Shr.is (to_the_right c.args.t c.args.v c.shift_right.result c.args.n few (simp to_z-of_z at c.shift_right.ensures)))
