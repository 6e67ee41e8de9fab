use Rattle.std.proofs.Common.{arith, refl}
use Rattle.po_straight.proofs.Bytes.{word_more}
use Rattle.po_straight.proofs.letters.word_end.Goals as goal

pub loop-end-preserved : goal.loop-end-preserved
loop-end-preserved c =
    (omega arith, omega arith, word_more _ _ _ c.loop-end.invariant.0 c.loop-end-test.true c.loop-end.invariant.2 (c.if-is_word_byte.ensures.0 refl))
