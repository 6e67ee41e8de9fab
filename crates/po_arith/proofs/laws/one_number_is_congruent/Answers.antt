use Rattle.po_arith.proofs.Wrapped.{one_wrapped}
use Rattle.po_arith.proofs.laws.one_number_is_congruent.Goals as goal

pub returns : goal.returns
returns c = one_wrapped
