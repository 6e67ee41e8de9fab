use Rattle.std.proofs.Common.{arith}
use Rattle.po_straight.proofs.Rules.{at_place, out_of_range}
use Rattle.po_straight.proofs.read_expression.operator_at.Goals as goal

pub returns-then-level-low-clause-value : goal.returns-then-level-low-clause-value
returns-then-level-low-clause-value c =
    let here = at_place c.args.at c.args.lexemes.now c.index-lexemes-at.result (omega arith) in
    out_of_range c.args.low c.args.high c.index-lexemes-at.result _ _ c.in_ok-op.ensures c.then-level-low.either (rw (← c.index-lexemes-at.is) at here)
