use Rattle.std.proofs.Common.{◌≡◌, ℕ, ◌+◌, ◌-◌, length}
use Rattle.po_draft.specs.Waiting.{kept_for}
use Rattle.po_draft.proofs.waiting.make_room.Given as goal

abbrev pub invariant-loop-waiting : goal.invariant-loop-waiting
invariant-loop-waiting l = (j : ℕ) → kept_for l.waiting.items j ≡ kept_for l.initial.waiting.items j

abbrev pub decreases-loop-waiting : goal.decreases-loop-waiting
decreases-loop-waiting l = l.k + 1 - length l.waiting.items
