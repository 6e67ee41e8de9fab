use Rattle.std.proofs.lemmas.Int.{to_z-of_z}
use Rattle.po_arith.proofs.Shifted.{shifted, capped, shr_fits}
use Rattle.po_arith.proofs.shifts.shift_right.Goals as goal

pub returns : goal.returns
returns c =
    let fits = c.ranges.v in
    let shr = shr_fits c.args.v c.min.result fits in
    rw (to_z-of_z _ c.args.v fits) (rw (to_z-of_z _ _ shr) (rw (c.min.ensures, capped c.args.v c.args.n fits) (shifted c.args.v c.args.n)))
