use Rattle.po_pred.specs.OrderLaws.{pred_order}
use Rattle.po_pred.proofs.laws.predicates_are_ordered.Goals as goal

pub returns : goal.returns
returns c = pred_order
