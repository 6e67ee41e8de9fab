use Rattle.std.proofs.Common.{◌≡◌, ◌≤◌, length, take}
use Rattle.po_typed.specs.Scopes.{tag_in}
use Rattle.po_scopes.specs.Standing.{blocks_of}
use Rattle.po_scopes.proofs.scopes.tag.Given as goal

abbrev pub invariant-loop-left : goal.invariant-loop-left
invariant-loop-left l = (tag_in (blocks_of (take l.left l.scopes)) l.name ≡ tag_in (blocks_of l.scopes) l.name) × (l.left ≤ length l.scopes)

abbrev pub decreases-loop-left : goal.decreases-loop-left
decreases-loop-left l = l.left
