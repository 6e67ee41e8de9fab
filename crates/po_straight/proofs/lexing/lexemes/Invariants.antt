use Rattle.std.proofs.Common.{◌+◌, ◌-◌, ◌≤◌, length, drop}
use Rattle.po_straight.specs.Lexing.{IsFront}
use Rattle.po_straight.proofs.lexing.lexemes.Given as goal

abbrev pub invariant-loop-at : goal.invariant-loop-at
invariant-loop-at l =
    (l.at ≤ length l.bytes) × (l.line ≤ l.at + 1) × IsFront l.lexemes l.line (drop l.at l.bytes) l.bytes

abbrev pub decreases-loop-at : goal.decreases-loop-at
decreases-loop-at l = length l.bytes - l.at
