use Rattle.ledger_tests.proofs.Totals.{held_then, held_else, held_all}
use Rattle.ledger_tests.proofs.counting.held_count.Goals as goal
use Rattle.ledger_tests.proofs.counting.held_count.Goals.{then-is_held, else-is_held}
use Rattle.std.proofs.lemmas.Bool.{both_ways}

pub loop-number-preserved : goal.loop-number-preserved
loop-number-preserved g c = elim c.if-is_held.branch [
  | then-is_held w ↦ held_then c.args.hands.now c.loop-number.number c.loop-number.held c.if-is_held.held c.loop-number.invariant (c.is_held.ensures.0 w.if-is_held.true) w.held-is
  | else-is_held w ↦ held_else c.args.hands.now c.loop-number.number c.loop-number.held c.if-is_held.held c.loop-number.invariant (λ h. both_ways _ w.if-is_held.false (c.is_held.ensures.1 h)) w.held-is
]

pub returns : goal.returns
returns g c = held_all c.args.hands.now c.loop-number.number c.loop-number.held c.args.files c.requires c.loop-number-test.false c.loop-number.invariant.0
