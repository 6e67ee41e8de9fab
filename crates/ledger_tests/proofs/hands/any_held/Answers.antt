use Rattle.std.proofs.Common.{arith, refl, Some}
use Rattle.std.proofs.lemmas.Bool.{both_ways, false≢true}
use Rattle.std.proofs.lemmas.Option.{slice_get_within}
use Rattle.po_ledger.proofs.Lists.{no_hand_more, hand_read}
use Rattle.ledger_tests.proofs.hands.any_held.Goals as goal

pub loop-i-preserved : goal.loop-i-preserved
loop-i-preserved g c = no_hand_more c.args.hands.now c.loop-i.i c.index-hands-i.result c.loop-i-test.true c.index-hands-i.is c.loop-i.invariant (λ h. both_ways _ c.if-is_hand.false (c.is_hand.ensures.1 h))

pub returns-then-is_hand : goal.returns-then-is_hand
returns-then-is_hand g c = (λ h. hand_read c.args.hands.now c.loop-i.i c.index-hands-i.result c.loop-i-test.true c.index-hands-i.is (c.is_hand.ensures.0 c.if-is_hand.true), λ h. refl)

pub returns : goal.returns
returns g c = (λ h. absurd (false≢true h), λ h. absurd (c.loop-i.invariant h.0.0 h.1.0 (let w = slice_get_within c.args.hands.now h.0.0 (Some h.1.0) h.1.1 in omega arith) h.1.1))
