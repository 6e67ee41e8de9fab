use Rattle.std.proofs.Common.{take}
use Rattle.std.proofs.lemmas.List.{take_all}
use Rattle.po_lists.proofs.Members.{has}
use Rattle.po_core.specs.declared.event.Mark.TheVariants.{Untaken}
use Rattle.po_ledger.proofs.Lists.{read_in}
use Rattle.ledger_tests.proofs.Walked.{none_more}
use Rattle.ledger_tests.proofs.untaken.takeable.Goals as goal

pub loop-i-init : goal.loop-i-init
loop-i-init g c = λ o h. absurd (has (take 0 c.args.marks.now) (o, Untaken) h)

pub takeable_file-requires : goal.takeable_file-requires
takeable_file-requires g c = c.requires _ (_, read_in c.args.marks.now c.loop-i.i c.index-marks-i.result c.loop-i-test.true c.index-marks-i.is)

pub loop-i-preserved : goal.loop-i-preserved
loop-i-preserved g c = none_more (g.R.Rulebook.meaning c.args.book.now) c.args.marks.now c.args.hands.now c.loop-i.i c.index-marks-i.result c.loop-i-test.true c.index-marks-i.is c.loop-i.invariant c.in_default.ensures.none

pub returns-clause-none : goal.returns-clause-none
returns-clause-none g c = rw (take_all c.loop-i.i c.args.marks.now c.loop-i-test.false) at c.loop-i.invariant
