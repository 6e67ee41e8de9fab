use Rattle.std.proofs.Common.{arith}
use Rattle.po_straight.proofs.Bodies.{open_more}
use Rattle.po_straight.proofs.body.semicolon_from.Goals as goal

pub loop-at-preserved : goal.loop-at-preserved
loop-at-preserved c = (
  omega arith,
  omega arith,
  open_more c.args.lexemes.now c.args.start c.loop-at.at c.loop-at.invariant.0 c.loop-at-test.true c.loop-at.invariant.2
      (λ h. absurd {A = ⊥} (cc (c.if-stands.ensures.1 h))),
)
