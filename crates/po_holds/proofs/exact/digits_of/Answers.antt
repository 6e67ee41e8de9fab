use Rattle.std.proofs.Common.{rules, ◌^◌, arith, FitsSigned, to_z-of_z}
use Rattle.std.specs.Prelude.{pos, ◌-ℤ◌, ◌*ℤ◌}
use Rattle.std.specs.Int.{int_shr, w128}
use Rattle.std.proofs.lemmas.Int.{ints}
use Rattle.po_arith.proofs.Shifted.{shifted, shr_fits}
use Rattle.po_holds.proofs.Sums.{split, digits_small}
use Rattle.po_holds.proofs.exact.digits_of.Goals as goal

pub returns-clause-value : goal.returns-clause-value
returns-clause-value c =
    let fits : FitsSigned w128 c.args.x.now = search rules in
    let rest = shr_fits c.args.x.now 48 fits in
    let high = shr_fits (int_shr c.args.x.now 48) 48 rest in
    let down = shifted c.args.x.now 48 in
    let down_rest = shifted (int_shr c.args.x.now 48) 48 in
    let times : FitsSigned w128 (int_shr c.args.x.now 48 *ℤ pos (2 ^ 48)) = omega (arith, ints) in
    let low : FitsSigned w128 (c.args.x.now -ℤ int_shr c.args.x.now 48 *ℤ pos (2 ^ 48)) = omega (arith, ints) in
    let times_rest : FitsSigned w128 (int_shr (int_shr c.args.x.now 48) 48 *ℤ pos (2 ^ 48)) = omega (arith, ints) in
    let middle : FitsSigned w128 (int_shr c.args.x.now 48 -ℤ int_shr (int_shr c.args.x.now 48) 48 *ℤ pos (2 ^ 48)) = omega (arith, ints) in
    simp to_z-of_z (split c.args.x.now)

pub returns-clause-digits : goal.returns-clause-digits
returns-clause-digits c =
    let fits : FitsSigned w128 c.args.x.now = search rules in
    let rest = shr_fits c.args.x.now 48 fits in
    let high = shr_fits (int_shr c.args.x.now 48) 48 rest in
    let down = shifted c.args.x.now 48 in
    let down_rest = shifted (int_shr c.args.x.now 48) 48 in
    let times : FitsSigned w128 (int_shr c.args.x.now 48 *ℤ pos (2 ^ 48)) = omega (arith, ints) in
    let low : FitsSigned w128 (c.args.x.now -ℤ int_shr c.args.x.now 48 *ℤ pos (2 ^ 48)) = omega (arith, ints) in
    let times_rest : FitsSigned w128 (int_shr (int_shr c.args.x.now 48) 48 *ℤ pos (2 ^ 48)) = omega (arith, ints) in
    let middle : FitsSigned w128 (int_shr c.args.x.now 48 -ℤ int_shr (int_shr c.args.x.now 48) 48 *ℤ pos (2 ^ 48)) = omega (arith, ints) in
    simp to_z-of_z (digits_small c.args.x.now fits)
