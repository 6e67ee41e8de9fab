use Rattle.std.proofs.Common.{◌≤◌, ◌-◌, take, drop, length}
use Rattle.std.specs.Prelude.{All}
use Rattle.po_straight.specs.Outline.{IsOpen}
use Rattle.po_straight.proofs.body.semicolon_from.Given as goal

abbrev pub invariant-loop-at : goal.invariant-loop-at
invariant-loop-at l = (l.start ≤ l.at) × (l.at ≤ length l.lexemes) × All IsOpen (take (l.at - l.start) (drop l.start l.lexemes))

abbrev pub decreases-loop-at : goal.decreases-loop-at
decreases-loop-at l = length l.lexemes - l.at
