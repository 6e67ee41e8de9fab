use Rattle.std.proofs.lemmas.Bool.{both_ways}
use Rattle.po_ledger.proofs.Starts.{none_first, quiet_then}
use Rattle.po_ledger.proofs.ledger.Ledger.take.Goals as goal

pub ask-requires : goal.ask-requires
ask-requires g c = (c.some_held.ensures.0 c.if-some_held.true, none_first g.J.Naming.book c.args.worker _ _ _ c.in_ok-first.ensures.ok c.in-None.is)

pub ask-requires-in-None : goal.ask-requires-in-None
ask-requires-in-None g c = quiet_then g.J.Naming.book _ (λ x. both_ways _ c.if-some_held.false (c.some_held.ensures.1 x)) (none_first g.J.Naming.book c.args.worker _ _ _ c.in_ok-first.ensures.ok c.in-None.is)
