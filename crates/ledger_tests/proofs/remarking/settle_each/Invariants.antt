use Rattle.std.proofs.Common.{◌≡◌}
use Rattle.po_core.specs.declared.event.Mark.TheVariants.{Taken, Settled}
use Rattle.ledger_tests.proofs.Changed.{IsChangedTo}
use Rattle.ledger_tests.proofs.remarking.settle_each.Given as goal

abbrev pub invariant-loop-i : goal.invariant-loop-i
invariant-loop-i g l = IsChangedTo (λ p. p ≡ l.o) Taken (Settled l.v) l.initial.marks l.marks l.i
