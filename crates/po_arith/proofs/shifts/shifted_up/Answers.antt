use Rattle.std.proofs.Common.{refl, arith}
use Rattle.std.specs.Int.{w128}
use Rattle.std.proofs.lemmas.Int.{to_z-of_z}
use Rattle.std.specs.Prelude.{unsigned_abs}
use Rattle.po_arith.proofs.Powers.{power_is}
use Rattle.po_arith.proofs.Sizes.{count_few, shifted_fits}
use Rattle.po_arith.proofs.shifts.shifted_up.Goals as goal

pub overflow_mul-result : goal.overflow_mul-result
overflow_mul-result c =
    let v = c.ranges.v in
    let n = c.ranges.n in
    let few = count_few c.args.n c.requires.count c.requires.far in
    rw (to_z-of_z w128 c.args.v v, to_z-of_z w128 c.args.n n, power_is (unsigned_abs c.args.n) (omega arith))
    (shifted_fits c.args.v c.args.n c.requires.low c.requires.high c.requires.count c.requires.far)

pub returns : goal.returns
returns c =
    let v = c.ranges.v in
    let n = c.ranges.n in
    let few = count_few c.args.n c.requires.count c.requires.far in
    let fits = shifted_fits c.args.v c.args.n c.requires.low c.requires.high c.requires.count c.requires.far in
    rw (to_z-of_z w128 c.args.v v, to_z-of_z w128 c.args.n n, power_is (unsigned_abs c.args.n) (omega arith), to_z-of_z w128 _ fits) refl
