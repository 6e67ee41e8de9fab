use Rattle.std.proofs.Common.{◌<◌}
use Rattle.po_base.specs.declared.numbers.FileNo.{FileNo}
use Rattle.po_core.specs.Core.{IsHeld}
use Rattle.po_worker.proofs.locked.put_back_all.Given as goal

abbrev pub invariant-loop-number : goal.invariant-loop-number
invariant-loop-number g l = (file : FileNo) → file.0 < l.number → ¬ IsHeld l.ledger.state file
