use Rattle.std.proofs.Common.{refl, take_all}
use Rattle.std.proofs.lemmas.Bool.{both_ways, false≢true}
use Rattle.ledger_tests.proofs.Walked.{key_here, key_more}
use Rattle.ledger_tests.proofs.known.is_known.Goals as goal

pub loop-entry-preserved : goal.loop-entry-preserved
loop-entry-preserved g c = key_more c.args.marks.now c.loop-entry.entry-index c.entry-item.result c.args.o.now c.loop-entry-test.true c.entry-item.is c.loop-entry.invariant (λ q. both_ways _ c.if-is_same.false (c.is_same.ensures.1 q))

pub returns-then-is_same : goal.returns-then-is_same
returns-then-is_same g c = (λ h. key_here c.args.marks.now c.loop-entry.entry-index c.entry-item.result c.args.o.now c.loop-entry-test.true c.entry-item.is (c.is_same.ensures.0 c.if-is_same.true), λ h. refl)

pub returns : goal.returns
returns g c = (λ h. absurd (false≢true h), λ h. absurd ((rw (take_all c.loop-entry.entry-index c.args.marks.now c.loop-entry-test.false) at c.loop-entry.invariant) h))
