use Rattle.std.proofs.Common.{◌≤◌, ◌-◌, take, drop, length}
use Rattle.std.specs.Prelude.{All}
use Rattle.po_straight.specs.Spelling.{IsWordByte}
use Rattle.po_straight.proofs.letters.word_end.Given as goal

abbrev pub invariant-loop-end : goal.invariant-loop-end
invariant-loop-end l = (l.at ≤ l.end) × (l.end ≤ length l.bytes) × All IsWordByte (take (l.end - l.at) (drop l.at l.bytes))

abbrev pub decreases-loop-end : goal.decreases-loop-end
decreases-loop-end l = length l.bytes - l.end
