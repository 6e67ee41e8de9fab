use Rattle.std.proofs.Common.{rules, arith, FitsSigned, ◌<◌, length, slice_index_or, ap, ◌∙◌}
use Rattle.std.specs.Prelude.{pos}
use Rattle.std.specs.Int.{w128}
use Rattle.std.proofs.lemmas.Int.{to_z-of_z}
use Rattle.po_interval.specs.Results.{conv}
use Rattle.po_interval.specs.Gathering.{put}
use Rattle.po_interval.proofs.Gathered.{row_at}
use Rattle.po_interval.proofs.gathering.conv_few.Goals as goal

pub loop-x-preserved : goal.loop-x-preserved
loop-x-preserved c =
    let fits : FitsSigned w128 (slice_index_or c.args.xs.now c.loop-x.x-index (pos 0)) = search rules in
    let test = c.loop-x-test.true in
    let less : c.loop-x.x-index < length c.args.xs.now = omega arith in
    let value = simp to_z-of_z at c.conv.ensures in
    row_at (conv c.args.t) c.loop-x.numbers c.put.new.numbers c.args.xs.now _ c.loop-x.x-index less c.loop-x.invariant (c.in_ok-put.ensures ∙ ap (put c.loop-x.numbers) value)
