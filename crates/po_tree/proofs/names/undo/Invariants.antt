use Rattle.std.proofs.Common.{◌≡◌, length}
use Rattle.po_tree.specs.InForce.{outer_of, IsAscending}
use Rattle.po_tree.proofs.names.undo.Given as goal

abbrev pub invariant-loop-change : goal.invariant-loop-change
invariant-loop-change l =
    (outer_of l.changes l.typedefs l.tags ≡ outer_of l.initial.changes l.initial.typedefs l.initial.tags) × (IsAscending l.initial.typedefs → IsAscending l.typedefs)

abbrev pub decreases-loop-change : goal.decreases-loop-change
decreases-loop-change l = length l.changes
