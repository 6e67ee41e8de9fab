use Rattle.po_worker.proofs.working.take_or_wait.Goals as goal

pub returns-in-Ticket-clause-open : goal.returns-in-Ticket-clause-open
returns-in-Ticket-clause-open g c = rw c.in-Ticket.is at c.in_ok-ticket.ensures

pub returns-in-Done-clause-done : goal.returns-in-Done-clause-done
returns-in-Done-clause-done g c = rw c.in-Done.is at c.in_ok-ticket.ensures
