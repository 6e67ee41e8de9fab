use Rattle.po_interval.proofs.Covered.{bin_covers}
use Rattle.po_interval.proofs.laws.binary_results_are_covered.Goals as goal

pub returns : goal.returns
returns c = bin_covers
