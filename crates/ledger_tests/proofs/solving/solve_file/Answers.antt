use Rattle.po_worker.proofs.Handed.{can_give, handed_open}
use Rattle.ledger_tests.proofs.Plain.{handed_fits}
use Rattle.ledger_tests.proofs.solving.solve_file.Goals as goal

pub settle_ticket-requires-clause-open : goal.settle_ticket-requires-clause-open
settle_ticket-requires-clause-open g c = handed_open g.J.Naming.book _ _ _ _ (rw c.in-Ticket.is at c.in_ok-ticket.ensures.ok)

pub settle_ticket-requires-clause-fits : goal.settle_ticket-requires-clause-fits
settle_ticket-requires-clause-fits g c = handed_fits g.J.Naming.book _ _ _ _ (rw c.in-Ticket.is at c.in_ok-ticket.ensures.ok)

pub give-requires : goal.give-requires
give-requires g c = can_give _ _ c.in_ok-settle_ticket-in-Ticket.ensures.fits c.in_ok-settle_ticket-in-Ticket.ensures.ok.settled
