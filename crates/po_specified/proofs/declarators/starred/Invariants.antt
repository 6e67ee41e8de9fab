use Rattle.std.proofs.Common.{◌≡◌, drop}
use Rattle.po_typed.specs.BaseTypes.{starred}
use Rattle.po_specified.proofs.declarators.starred.Given as goal

abbrev pub invariant-loop-star : goal.invariant-loop-star
invariant-loop-star l = starred l.pointer (drop l._star-index l.stars) ≡ starred l.fn.t l.stars
