use Rattle.std.proofs.Common.{sym, subst}
use Rattle.po_ledger.specs.Hands.{Extends}
use Rattle.po_ledger.specs.View.{LedgerView}
use Rattle.po_worker.specs.Alone.{NoneHeld}
use Rattle.po_worker.proofs.Draining.{asked_wait, extends_none, file_advances, handed_out, handed_some}
use Rattle.po_lists.proofs.Results.{on_err-always}
use Rattle.po_worker.proofs.Handed.{asked_done, handed_open}
use Rattle.po_worker.proofs.alone.solve_file.Goals as goal

pub returns-in_err-ticket-clause-err : goal.returns-in_err-ticket-clause-err
returns-in_err-ticket-clause-err g c = on_err-always _ (subst (λ (z : LedgerView _ _ _). NoneHeld z.state) (sym c.in_err-ticket.ensures.err) c.requires)

pub returns-in_err-ticket-clause-journal : goal.returns-in_err-ticket-clause-journal
returns-in_err-ticket-clause-journal g c = subst (λ (z : LedgerView _ _ _). Extends c.args.ledger.now.journal z.journal) (sym c.in_err-ticket.ensures.err) (extends_none _)

pub solve_ticket-requires-clause-holds : goal.solve_ticket-requires-clause-holds
solve_ticket-requires-clause-holds g c = handed_out g.J.Naming.book _ _ _ _ c.requires (rw c.in-Ticket.is at c.in_ok-ticket.ensures.ok)

pub solve_ticket-requires-clause-open : goal.solve_ticket-requires-clause-open
solve_ticket-requires-clause-open g c = handed_open g.J.Naming.book _ _ _ _ (rw c.in-Ticket.is at c.in_ok-ticket.ensures.ok)

pub solve_ticket-requires-clause-some : goal.solve_ticket-requires-clause-some
solve_ticket-requires-clause-some g c = handed_some g.J.Naming.book _ _ _ _ (rw c.in-Ticket.is at c.in_ok-ticket.ensures.ok)

pub unreachable-requires : goal.unreachable-requires
unreachable-requires g c = asked_wait g.J.Naming.book _ _ _ c.requires (rw c.in-Wait.is at c.in_ok-ticket.ensures.ok)

pub returns-in_ok-solve_ticket-in-Ticket-clause-more : goal.returns-in_ok-solve_ticket-in-Ticket-clause-more
returns-in_ok-solve_ticket-in-Ticket-clause-more g c = λ h. (
  c.in_ok-solve_ticket-in-Ticket.ensures.ok.0,
  file_advances g.J.Naming.book _ _ _ _ _ (rw c.in-Ticket.is at c.in_ok-ticket.ensures.ok) c.in_ok-solve_ticket-in-Ticket.ensures.ok.1,
)

pub returns-in-Done-clause-done : goal.returns-in-Done-clause-done
returns-in-Done-clause-done g c = λ h. asked_done g.J.Naming.book _ _ _ (rw c.in-Done.is at c.in_ok-ticket.ensures.ok)
