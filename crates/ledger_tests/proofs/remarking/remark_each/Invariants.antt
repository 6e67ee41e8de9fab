use Rattle.std.specs.List.{Contains}
use Rattle.ledger_tests.specs.Walks.{mark_before}
use Rattle.ledger_tests.proofs.Changed.{IsChangedTo}
use Rattle.ledger_tests.proofs.remarking.remark_each.Given as goal

abbrev pub invariant-loop-i : goal.invariant-loop-i
invariant-loop-i g l = IsChangedTo (λ o. Contains l.items o) (mark_before l.taken) l.to l.initial.marks l.marks l.i
