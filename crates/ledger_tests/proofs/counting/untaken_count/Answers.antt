use Rattle.std.proofs.lemmas.Bool.{both_ways}
use Rattle.std.proofs.lemmas.List.{take_all}
use Rattle.ledger_tests.proofs.Totals.{untaken_then, untaken_else, untaken_all}
use Rattle.ledger_tests.proofs.counting.untaken_count.Goals as goal
use Rattle.ledger_tests.proofs.counting.untaken_count.Goals.{then-is_untaken, else-is_untaken}

pub loop-i-preserved : goal.loop-i-preserved
loop-i-preserved g c = elim c.if-is_untaken.branch [
  | then-is_untaken w ↦ untaken_then c.args.marks.now c.loop-i.i c.index-marks-i.result c.loop-i.untaken c.if-is_untaken.untaken c.requires c.loop-i-test.true c.index-marks-i.is c.loop-i.invariant (c.is_untaken.ensures.0 w.if-is_untaken.true) w.untaken-is
  | else-is_untaken w ↦ untaken_else c.args.marks.now c.loop-i.i c.index-marks-i.result c.loop-i.untaken c.if-is_untaken.untaken c.loop-i-test.true c.index-marks-i.is c.loop-i.invariant (λ h. both_ways _ w.if-is_untaken.false (c.is_untaken.ensures.1 h)) w.untaken-is
]

pub returns : goal.returns
returns g c = untaken_all c.args.marks.now c.loop-i.i c.loop-i.untaken (take_all c.loop-i.i c.args.marks.now c.loop-i-test.false) c.loop-i.invariant.0
