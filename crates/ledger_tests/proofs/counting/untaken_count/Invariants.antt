use Rattle.std.proofs.Common.{◌≤◌}
use Rattle.po_ledger.specs.Calls.{Counts}
use Rattle.ledger_tests.proofs.Totals.{IsUntakenBefore}
use Rattle.ledger_tests.proofs.counting.untaken_count.Given as goal

abbrev pub invariant-loop-i : goal.invariant-loop-i
invariant-loop-i g l = Counts (IsUntakenBefore l.marks l.i) l.untaken × (l.untaken ≤ l.i)
