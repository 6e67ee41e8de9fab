use Rattle.po_ledger.proofs.Lined.{lines_more}
use Rattle.ledger_tests.proofs.reporting.settled_lines.Goals as goal

pub loop-i-preserved : goal.loop-i-preserved
loop-i-preserved g c = lines_more c.args.marks.now c.requires c.loop-i.i c.index-marks-i.result c.loop-i-test.true c.index-marks-i.is c.loop-i.lines.items c.add_line.new.lines.items c.loop-i.invariant c.in_ok-add_line.ensures
