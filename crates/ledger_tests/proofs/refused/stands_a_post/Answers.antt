use Rattle.ledger_tests.specs.Rows.{calls}
use Rattle.ledger_tests.proofs.Plain.{first_post}
use Rattle.ledger_tests.proofs.refused.stands_a_post.Goals as goal

pub stands-is-requires-clause-can : goal.stands-is-requires-clause-can
stands-is-requires-clause-can c = first_post calls 1 c.in_ok-ledger.ledger c.take.new.self c.in-Ticket.ticket c.verdict.new.self c.in_ok-verdict.verdict c.in-Delegated.q (rw c.in-Ticket.is at c.in_ok-ticket.ensures.ok) c.verdict.ensures.same c.in_ok-verdict.ensures.value c.in-Delegated.is
