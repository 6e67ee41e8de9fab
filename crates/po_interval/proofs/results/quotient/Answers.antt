use Rattle.std.proofs.lemmas.Int.{to_z-of_z}
use Rattle.po_arith.proofs.Sizes.{of_type_small}
use Rattle.po_interval.proofs.results.quotient.Goals as goal

pub div_trunc-requires-clause-a : goal.div_trunc-requires-clause-a
div_trunc-requires-clause-a c =
    let v = c.ranges.v in
    simp to_z-of_z (of_type_small c.args.t c.args.v c.requires.t c.requires.v)
