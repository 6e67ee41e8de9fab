use Rattle.std.proofs.Common.{◌≡◌, ◌≤◌, drop, length}
use Rattle.po_tree.specs.Literals as literals
use Rattle.po_exp_parts.proofs.characters.row.Given as goal

abbrev pub invariant-loop-left : goal.invariant-loop-left
invariant-loop-left l =
    (l.at ≤ l.end) × (l.end ≤ length l.text) × (literals.row l.base l.left l.value (drop l.end l.text) ≡ literals.row l.base l.most 0 (drop l.at l.text))

abbrev pub decreases-loop-left : goal.decreases-loop-left
decreases-loop-left l = l.left
