use Rattle.std.proofs.Common.{take}
use Rattle.po_ledger.specs.Parts.{TakesFrom}
use Rattle.ledger_tests.proofs.untaken.untaken_of.Given as goal

abbrev pub invariant-loop-i : goal.invariant-loop-i
invariant-loop-i g l = TakesFrom (g.R.Rulebook.meaning l.book) (take l.i l.marks) l.file l.items
