use Rattle.std.proofs.Common.{rules, arith, FitsSigned, ◌<◌, length, slice_index_or, ap, ◌∙◌}
use Rattle.std.specs.Prelude.{pos}
use Rattle.std.specs.Int.{w128}
use Rattle.std.proofs.lemmas.Int.{to_z-of_z}
use Rattle.po_interval.specs.Results.{unary}
use Rattle.po_interval.specs.Gathering.{put}
use Rattle.po_interval.proofs.Gathered.{row_at, among_at}
use Rattle.po_interval.proofs.gathering.un_few.Goals as goal

pub unary-requires-clause-v : goal.unary-requires-clause-v
unary-requires-clause-v c =
    let fits : FitsSigned w128 (slice_index_or c.args.xs.now c.loop-x.x-index (pos 0)) = search rules in
    let test = c.loop-x-test.true in
    let less : c.loop-x.x-index < length c.args.xs.now = omega arith in
    simp to_z-of_z (c.requires.xs _ (among_at c.args.xs.now c.loop-x.x-index less))

pub loop-x-preserved : goal.loop-x-preserved
loop-x-preserved c =
    let fits : FitsSigned w128 (slice_index_or c.args.xs.now c.loop-x.x-index (pos 0)) = search rules in
    let test = c.loop-x-test.true in
    let less : c.loop-x.x-index < length c.args.xs.now = omega arith in
    let value = simp to_z-of_z at c.unary.ensures in
    row_at (unary c.args.op c.args.t) c.loop-x.numbers c.put.new.numbers c.args.xs.now _ c.loop-x.x-index less c.loop-x.invariant (c.in_ok-put.ensures ∙ ap (put c.loop-x.numbers) value)
