use Rattle.std.proofs.Common.{◌≡◌, length}
use Rattle.po_symbols.specs.Pairs.{pair_beyond}
use Rattle.po_symbols.proofs.pairs.without_first.Given as goal

abbrev pub invariant-loop-left : goal.invariant-loop-left
invariant-loop-left l = pair_beyond l.spelling l.others ≡ pair_beyond l.spelling l.left

abbrev pub decreases-loop-left : goal.decreases-loop-left
decreases-loop-left l = length l.left
