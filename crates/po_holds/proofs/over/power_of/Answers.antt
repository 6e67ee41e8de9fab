use Rattle.std.proofs.Common.{rules, ◌≡◌, ◌^◌, ◌-◌, arith, FitsSigned, to_z-of_z}
use Rattle.std.specs.Prelude.{pos}
use Rattle.std.specs.Int.{w128}
use Rattle.po_holds.proofs.Widths.{low_power, high_power}
use Rattle.po_holds.proofs.over.power_of.Goals as goal

pub returns-then-n-le126 : goal.returns-then-n-le126
returns-then-n-le126 c =
    let second : c.two_to.result ≡ pos (2 ^ c.args.n) = c.two_to.ensures in
    let fits : FitsSigned w128 c.two_to.result = search rules in
    simp to_z-of_z (rw second (low_power c.args.n c.if-n-le126.true))

pub returns : goal.returns
returns c =
    let high = high_power c.args.n (omega (arith, c.if-n-le126.false)) (omega (arith, c.if-n-le126.false, c.if-n-eq254.false, c.requires)) in
    let second : c.two_to-2.result ≡ pos (2 ^ (c.args.n - 127)) = c.two_to-2.ensures in
    let fits : FitsSigned w128 c.two_to-2.result = search rules in
    simp to_z-of_z (rw second high)
