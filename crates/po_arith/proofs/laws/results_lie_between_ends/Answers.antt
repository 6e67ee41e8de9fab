use Rattle.po_arith.proofs.RangesCover.{results_are_covered}
use Rattle.po_arith.proofs.laws.results_lie_between_ends.Goals as goal

pub returns : goal.returns
returns c = results_are_covered
