use Rattle.std.proofs.Common.{◌-◌, length}
use Rattle.po_constants.proofs.DigitRows.{IsReadTo}
use Rattle.po_constants.proofs.digits.digits.Given as goal

abbrev pub invariant-loop-end : goal.invariant-loop-end
invariant-loop-end l = IsReadTo l.text l.base l.at l.end l.value

abbrev pub decreases-loop-end : goal.decreases-loop-end
decreases-loop-end l = length l.text - l.end
