use Rattle.std.proofs.Common.{◌≤◌}
use Rattle.po_ledger.specs.Calls.{Counts}
use Rattle.ledger_tests.proofs.Totals.{IsHeldBelow}
use Rattle.ledger_tests.proofs.counting.held_count.Given as goal

abbrev pub invariant-loop-number : goal.invariant-loop-number
invariant-loop-number g l = Counts (IsHeldBelow l.hands l.number) l.held × (l.held ≤ l.number)
