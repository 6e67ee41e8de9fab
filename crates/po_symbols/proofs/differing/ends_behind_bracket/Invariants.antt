use Rattle.std.proofs.Common.{◌≡◌, length}
use Rattle.po_symbols.specs.Differing.{follows_bracket}
use Rattle.po_symbols.proofs.differing.ends_behind_bracket.Given as goal

abbrev pub invariant-loop-left : goal.invariant-loop-left
invariant-loop-left l = follows_bracket l.text l.item ≡ follows_bracket l.left l.item

abbrev pub decreases-loop-left : goal.decreases-loop-left
decreases-loop-left l = length l.left
