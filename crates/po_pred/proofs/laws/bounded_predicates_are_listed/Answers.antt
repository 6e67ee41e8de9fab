use Rattle.po_pred.proofs.Listed.{listed}
use Rattle.po_pred.proofs.laws.bounded_predicates_are_listed.Goals as goal

pub returns : goal.returns
returns c = listed
