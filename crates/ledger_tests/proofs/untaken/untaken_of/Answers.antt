use Rattle.std.proofs.lemmas.List.{take_all}
use Rattle.po_ledger.proofs.Lists.{read_in}
use Rattle.ledger_tests.proofs.Walked.{takes_none, takes_more}
use Rattle.ledger_tests.proofs.untaken.untaken_of.Goals as goal

pub loop-i-init : goal.loop-i-init
loop-i-init g c = rw c.new-items.ensures (takes_none _ c.args.marks.now c.args.file)

pub push_untaken-requires : goal.push_untaken-requires
push_untaken-requires g c = c.requires.there _ (_, read_in c.args.marks.now c.loop-i.i c.index-marks-i.result c.loop-i-test.true c.index-marks-i.is)

pub loop-i-preserved : goal.loop-i-preserved
loop-i-preserved g c = takes_more _ c.args.marks.now c.args.file c.loop-i.i c.index-marks-i.result c.loop-i.items c.push_untaken.new.items c.requires.apart c.loop-i-test.true c.index-marks-i.is c.loop-i.invariant c.in_ok-push_untaken.ensures

pub returns : goal.returns
returns g c = rw (take_all c.loop-i.i c.args.marks.now c.loop-i-test.false) at c.loop-i.invariant
