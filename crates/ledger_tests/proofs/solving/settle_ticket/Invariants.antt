use Rattle.po_ledger.specs.Hands.{SettlesFront}
use Rattle.ledger_tests.proofs.solving.settle_ticket.Given as goal

abbrev pub invariant-loop-k : goal.invariant-loop-k
invariant-loop-k g l = SettlesFront g.J.Naming.book l.k l.initial.t l.t l.initial.ledger l.ledger
