use Rattle.std.proofs.Common.{take}
use Rattle.ledger_tests.specs.Walks.{NoneTakeable}
use Rattle.ledger_tests.proofs.untaken.takeable.Given as goal

abbrev pub invariant-loop-i : goal.invariant-loop-i
invariant-loop-i g l = NoneTakeable (g.R.Rulebook.meaning l.book) (take l.i l.marks) l.hands
