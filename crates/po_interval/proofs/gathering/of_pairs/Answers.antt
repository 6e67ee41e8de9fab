use Rattle.std.proofs.Common.{rules, arith, FitsSigned, ◌<◌, length, slice_index_or}
use Rattle.std.specs.Prelude.{pos}
use Rattle.std.specs.Int.{w128}
use Rattle.std.proofs.lemmas.Int.{to_z-of_z}
use Rattle.po_interval.specs.Results.{binary}
use Rattle.po_interval.proofs.Gathered.{pairs_at, among_at}
use Rattle.po_interval.proofs.gathering.of_pairs.Goals as goal

pub put_row-requires-clause-x : goal.put_row-requires-clause-x
put_row-requires-clause-x c =
    let fits : FitsSigned w128 (slice_index_or c.args.xs.now c.loop-x.x-index (pos 0)) = search rules in
    let test = c.loop-x-test.true in
    let less : c.loop-x.x-index < length c.args.xs.now = omega arith in
    simp to_z-of_z (c.requires.xs _ (among_at c.args.xs.now c.loop-x.x-index less))

pub loop-x-preserved : goal.loop-x-preserved
loop-x-preserved c =
    let fits : FitsSigned w128 (slice_index_or c.args.xs.now c.loop-x.x-index (pos 0)) = search rules in
    let test = c.loop-x-test.true in
    let less : c.loop-x.x-index < length c.args.xs.now = omega arith in
    let value = simp to_z-of_z at c.in_ok-put_row.ensures in
    pairs_at (binary c.args.op c.args.t) c.loop-x.numbers c.put_row.new.numbers c.args.xs.now c.args.ys.now _ c.loop-x.x-index less c.loop-x.invariant value
