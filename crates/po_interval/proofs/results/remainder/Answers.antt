use Rattle.std.proofs.lemmas.Int.{to_z-of_z}
use Rattle.po_arith.proofs.Sizes.{of_type_small}
use Rattle.po_interval.proofs.results.remainder.Goals as goal

pub rem_trunc-requires-clause-a : goal.rem_trunc-requires-clause-a
rem_trunc-requires-clause-a c =
    let v = c.ranges.v in
    simp to_z-of_z (of_type_small c.args.t c.args.v c.requires.t c.requires.v)
