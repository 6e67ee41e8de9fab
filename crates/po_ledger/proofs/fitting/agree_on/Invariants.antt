use Rattle.std.proofs.Common.{take}
use Rattle.po_ledger.specs.Parts.{AgreesOn}
use Rattle.po_ledger.proofs.fitting.agree_on.Given as goal

abbrev pub invariant-loop-at : goal.invariant-loop-at
invariant-loop-at g l = AgreesOn l.marks.entries (take l.at l.own)
