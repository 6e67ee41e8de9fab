use Rattle.po_pred.specs.OrderLaws.{equal_are_same}
use Rattle.po_pred.proofs.laws.equal_predicates_are_same.Goals as goal

pub returns : goal.returns
returns c = equal_are_same
