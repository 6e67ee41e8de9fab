use Rattle.std.proofs.Common.{arith}
use Rattle.std.specs.Prelude.{Contains}
use Rattle.std.proofs.lemmas.List.Elements.{All-more}
use Rattle.po_types.specs.Formats.{flags}
use Rattle.po_types.proofs.format.flags_length.Goals as goal

pub loop-end-preserved : goal.loop-end-preserved
loop-end-preserved c =
    (omega arith, All-more (Contains flags) c.args.text.now c.loop-end.end 0 c.loop-end-test.true c.loop-end.invariant.1 (c.is_flag.ensures.0 c.if-is_flag.true))
