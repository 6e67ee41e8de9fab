use Rattle.po_arith.proofs.RangesWiden.{results_widen}
use Rattle.po_arith.proofs.laws.wider_ranges_have_wider_results.Goals as goal

pub returns : goal.returns
returns c = results_widen
