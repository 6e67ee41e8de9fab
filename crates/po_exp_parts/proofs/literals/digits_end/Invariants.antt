use Rattle.std.proofs.Common.{◌≡◌, ◌≤◌, ◌-◌, drop, length}
use Rattle.po_tree.specs.Literals.{behind_digits}
use Rattle.po_exp_parts.proofs.literals.digits_end.Given as goal

abbrev pub invariant-loop-end : goal.invariant-loop-end
invariant-loop-end l = (l.end ≤ length l.text) × (behind_digits l.base (drop l.end l.text) ≡ behind_digits l.base (drop l.at l.text))

abbrev pub decreases-loop-end : goal.decreases-loop-end
decreases-loop-end l = length l.text - l.end
