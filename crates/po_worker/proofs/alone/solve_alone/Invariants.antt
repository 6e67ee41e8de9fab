use Rattle.std.proofs.Common.{◌-◌}
use Rattle.po_core.specs.Theorem.{settle_count, most_obligations}
use Rattle.po_ledger.specs.Hands.{Extends}
use Rattle.po_worker.specs.Alone.{NoneHeld}
use Rattle.po_worker.proofs.alone.solve_alone.Given as goal

abbrev pub invariant-loop : goal.invariant-loop
invariant-loop g l = NoneHeld l.ledger.state × Extends l.initial.ledger.journal l.ledger.journal

abbrev pub decreases-loop : goal.decreases-loop
decreases-loop g l = most_obligations g.J.Naming.book - settle_count l.ledger.journal
