use Rattle.std.proofs.Common.{ℕ, ◌≤◌, length}
use Rattle.po_holds.specs.Asking.{FitsIn, IsEndOf}
use Rattle.po_holds.proofs.strings.fit.Given as goal

abbrev pub invariant-loop-at : goal.invariant-loop-at
invariant-loop-at l = record {
  within : l.at ≤ length l.bytes;
  ends : IsEndOf l.bytes l.at l.end;
  fit : (i : ℕ) → l.at ≤ i → i ≤ l.s.last → FitsIn l.bytes l.room i;
}

abbrev pub decreases-loop-at : goal.decreases-loop-at
decreases-loop-at l = l.at
