use Rattle.std.proofs.Common.{refl, take_all}
use Rattle.std.proofs.lemmas.Bool.{both_ways, false≢true}
use Rattle.ledger_tests.proofs.Walked.{found_here, not_yet}
use Rattle.ledger_tests.proofs.ledger.is_assumed.Goals as goal

pub loop-pair-preserved : goal.loop-pair-preserved
loop-pair-preserved g c = not_yet c.args.assumed.now c.loop-pair.pair-index c.pair-item.result (c.args.f, c.args.q) c.loop-pair-test.true c.pair-item.is c.loop-pair.invariant (λ q. both_ways _ c.if-is_pair.false (c.is_pair.ensures.1 q))

pub returns-then-is_pair : goal.returns-then-is_pair
returns-then-is_pair g c = (λ h. found_here c.args.assumed.now c.loop-pair.pair-index c.pair-item.result (c.args.f, c.args.q) c.loop-pair-test.true c.pair-item.is (c.is_pair.ensures.0 c.if-is_pair.true), λ h. refl)

pub returns : goal.returns
returns g c = (λ h. absurd (false≢true h), λ h. absurd ((rw (take_all c.loop-pair.pair-index c.args.assumed.now c.loop-pair-test.false) at c.loop-pair.invariant) h))
