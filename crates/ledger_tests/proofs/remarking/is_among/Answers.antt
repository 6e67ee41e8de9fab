use Rattle.std.proofs.Common.{refl, take_all}
use Rattle.std.proofs.lemmas.Bool.{both_ways, false≢true}
use Rattle.ledger_tests.proofs.Walked.{found_here, not_yet}
use Rattle.ledger_tests.proofs.remarking.is_among.Goals as goal

pub loop-item-preserved : goal.loop-item-preserved
loop-item-preserved g c = not_yet c.args.items.now c.loop-item.item-index c.item-item.result c.args.o.now c.loop-item-test.true c.item-item.is c.loop-item.invariant (λ q. both_ways _ c.if-is_same.false (c.is_same.ensures.1 q))

pub returns-then-is_same : goal.returns-then-is_same
returns-then-is_same g c = (λ h. found_here c.args.items.now c.loop-item.item-index c.item-item.result c.args.o.now c.loop-item-test.true c.item-item.is (c.is_same.ensures.0 c.if-is_same.true), λ h. refl)

pub returns : goal.returns
returns g c = (λ h. absurd (false≢true h), λ h. absurd ((rw (take_all c.loop-item.item-index c.args.items.now c.loop-item-test.false) at c.loop-item.invariant) h))
