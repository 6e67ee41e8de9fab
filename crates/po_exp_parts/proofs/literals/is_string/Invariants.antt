use Rattle.std.proofs.Common.{◌≤◌, ◌-◌, ◌↔◌, drop, length}
use Rattle.po_exp_parts.proofs.Quoted.{Closes}
use Rattle.po_exp_parts.proofs.literals.is_string.Given as goal

abbrev pub invariant-loop-character : goal.invariant-loop-character
invariant-loop-character l = (l.end ≤ length l.text) × (Closes 34 (drop l.end l.text) ↔ Closes 34 (drop 1 l.text))

abbrev pub decreases-loop-character : goal.decreases-loop-character
decreases-loop-character l = length l.text - l.end
