use Rattle.std.proofs.Common.{rules, arith, FitsSigned, refl}
use Rattle.std.specs.Prelude.{◌*ℤ◌}
use Rattle.std.specs.Int.{w128}
use Rattle.std.proofs.lemmas.Int.{to_z-of_z}
use Rattle.po_arith.proofs.Sizes.{small}
use Rattle.po_constants.proofs.Results.{shifted_fits}
use Rattle.po_constants.proofs.operators.to_the_left.Goals as goal

pub power-requires : goal.power-requires
power-requires c = let few = (small c.args.t c.requires.t).few_bits in let n = c.requires.n in omega arith

pub overflow_mul-result : goal.overflow_mul-result
overflow_mul-result c =
    let v = c.ranges.v in
    let p : FitsSigned w128 c.power.result = search rules in
    let fits = shifted_fits c.args.t c.args.v c.args.n c.requires.t c.requires.v c.requires.n in
    simp to_z-of_z (rw c.power.ensures fits)

pub returns : goal.returns
returns c =
    let v = c.ranges.v in
    let p : FitsSigned w128 c.power.result = search rules in
    let fits = shifted_fits c.args.t c.args.v c.args.n c.requires.t c.requires.v c.requires.n in
    let product : FitsSigned w128 (c.args.v *ℤ c.power.result) = rw c.power.ensures fits in
    simp to_z-of_z (rw c.power.ensures refl)
