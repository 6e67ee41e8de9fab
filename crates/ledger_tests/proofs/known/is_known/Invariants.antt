use Rattle.std.proofs.Common.{take}
use Rattle.po_ledger.specs.Parts.{HasKey}
use Rattle.ledger_tests.proofs.known.is_known.Given as goal

abbrev pub invariant-loop-entry : goal.invariant-loop-entry
invariant-loop-entry g l = HasKey (take l.entry-index l.marks) l.o → ⊥
