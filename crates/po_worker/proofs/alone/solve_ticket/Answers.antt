use Rattle.std.proofs.Common.{refl}
use Rattle.po_worker.proofs.Draining.{bounded_in, does_extends, extends_twice, freed, ticket_advances}
use Rattle.po_worker.proofs.Handed.{can_give}
use Rattle.po_worker.proofs.alone.solve_ticket.Goals as goal

pub give-requires : goal.give-requires
give-requires g c = can_give _ _ c.in-Ok.ensures.holds.fits c.in-Ok.ensures.ok.settled

pub returns-in-Ok-clause-ok : goal.returns-in-Ok-clause-ok
returns-in-Ok-clause-ok g c = (
  freed g.J.Naming.book c.settle_ticket.new.ledger.state c.give.new.self.state c.settle_ticket.new.t c.settle_ticket.new.t.file c.in-Ok.ensures.holds refl c.give.ensures.does.steps.effect.0,
  ticket_advances g.J.Naming.book c.args.ticket c.settle_ticket.new.t c.args.ledger.now c.settle_ticket.new.ledger c.give.new.self c.in-Ok.ensures.ok c.requires.some c.give.ensures.does (bounded_in g.J.Naming.book _ c.give.new.self c.book.ensures c.settles_are_bounded.ensures c.keeps_its_facts.ensures),
)

pub returns-in-Ok-clause-journal : goal.returns-in-Ok-clause-journal
returns-in-Ok-clause-journal g c = extends_twice _ _ _ c.in-Ok.ensures.journal (does_extends g.J.Naming.book _ _ _ c.give.ensures.does)

pub returns-in-Err-clause-err : goal.returns-in-Err-clause-err
returns-in-Err-clause-err g c = freed g.J.Naming.book c.settle_ticket.new.ledger.state c.put_back.new.self.state c.settle_ticket.new.t c.file.result c.in-Err.ensures.holds c.file.ensures c.put_back.ensures.does.steps.effect.0

pub returns-in-Err-clause-journal : goal.returns-in-Err-clause-journal
returns-in-Err-clause-journal g c = extends_twice _ _ _ c.in-Err.ensures.journal (does_extends g.J.Naming.book _ _ _ c.put_back.ensures.does)
