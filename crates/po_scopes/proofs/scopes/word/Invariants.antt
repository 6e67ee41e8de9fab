use Rattle.std.proofs.Common.{◌≡◌, ◌≤◌, length, take}
use Rattle.po_typed.specs.Scopes.{word_in}
use Rattle.po_scopes.specs.Standing.{blocks_of}
use Rattle.po_scopes.proofs.scopes.word.Given as goal

abbrev pub invariant-loop-left : goal.invariant-loop-left
invariant-loop-left l = (word_in (blocks_of (take l.left l.scopes)) l.name ≡ word_in (blocks_of l.scopes) l.name) × (l.left ≤ length l.scopes)

abbrev pub decreases-loop-left : goal.decreases-loop-left
decreases-loop-left l = l.left
