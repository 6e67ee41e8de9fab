use Rattle.std.proofs.Common.{rules, arith, FitsSigned, ◌<◌, length, slice_index_or, ap, ◌∙◌}
use Rattle.std.specs.Prelude.{pos}
use Rattle.std.specs.Int.{w128}
use Rattle.std.proofs.lemmas.Int.{to_z-of_z}
use Rattle.po_interval.specs.Results.{binary}
use Rattle.po_interval.specs.Gathering.{put}
use Rattle.po_interval.proofs.Gathered.{row_at, among_at}
use Rattle.po_interval.proofs.gathering.put_row.Goals as goal

pub binary-requires-clause-w : goal.binary-requires-clause-w
binary-requires-clause-w c = λ kind.
    let fits : FitsSigned w128 (slice_index_or c.args.ys.now c.loop-y.y-index (pos 0)) = search rules in
    let test = c.loop-y-test.true in
    let less : c.loop-y.y-index < length c.args.ys.now = omega arith in
    simp to_z-of_z (c.requires.ys kind _ (among_at c.args.ys.now c.loop-y.y-index less))

pub loop-y-preserved : goal.loop-y-preserved
loop-y-preserved c =
    let fits : FitsSigned w128 (slice_index_or c.args.ys.now c.loop-y.y-index (pos 0)) = search rules in
    let x = c.ranges.x in
    let test = c.loop-y-test.true in
    let less : c.loop-y.y-index < length c.args.ys.now = omega arith in
    let value = simp to_z-of_z at c.binary.ensures in
    let before = simp to_z-of_z at c.loop-y.invariant in
    simp to_z-of_z (row_at (binary c.args.op c.args.t c.args.x) c.loop-y.numbers c.put.new.numbers c.args.ys.now _ c.loop-y.y-index less before (c.in_ok-put.ensures ∙ ap (put c.loop-y.numbers) value))
