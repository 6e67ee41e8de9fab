use Rattle.std.proofs.lemmas.Bool.{both_ways}
use Rattle.po_ledger.proofs.Starts.{quiet_then}
use Rattle.ledger_tests.proofs.ledger.ListLedger.take.Goals as goal

pub ask-requires : goal.ask-requires
ask-requires g c = (c.some_held.ensures.0 c.if-some_held.true, c.in-None.ensures.none)

pub ask-requires-in-None : goal.ask-requires-in-None
ask-requires-in-None g c = quiet_then g.J.Naming.book _ (λ x. both_ways _ c.if-some_held.false (c.some_held.ensures.1 x)) c.in-None.ensures.none
