use Rattle.std.proofs.Common.{sym, subst}
use Rattle.po_ledger.specs.Hands.{IsSettledUpTo}
use Rattle.po_worker.proofs.working.do_ticket.Goals as goal

pub settle-requires-clause-open : goal.settle-requires-clause-open
settle-requires-clause-open g c = subst (λ z. IsSettledUpTo z 0) (sym c.verdicts_of.ensures.same.hand) c.requires.open
