use Rattle.std.proofs.Common.{take}
use Rattle.po_ledger.specs.Parts.{AreLines}
use Rattle.ledger_tests.proofs.reporting.settled_lines.Given as goal

abbrev pub invariant-loop-i : goal.invariant-loop-i
invariant-loop-i g l = AreLines (take l.i l.marks) l.lines.items
