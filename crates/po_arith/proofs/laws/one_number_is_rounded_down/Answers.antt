use Rattle.po_arith.proofs.Shifted.{one_shifted}
use Rattle.po_arith.proofs.laws.one_number_is_rounded_down.Goals as goal

pub returns : goal.returns
returns c = one_shifted
