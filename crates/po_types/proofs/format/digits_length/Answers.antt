use Rattle.std.proofs.Common.{arith}
use Rattle.std.proofs.lemmas.List.Elements.{All-more}
use Rattle.po_types.specs.Formats.{IsDigit}
use Rattle.po_types.proofs.format.digits_length.Goals as goal

pub loop-end-preserved : goal.loop-end-preserved
loop-end-preserved c =
    (omega arith, All-more (IsDigit) c.args.text.now c.loop-end.end 0 c.loop-end-test.true c.loop-end.invariant.1 (c.is_digit.ensures.0 c.if-is_digit.true))
