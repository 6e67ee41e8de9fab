use Rattle.po_pred.specs.OrderLaws.{views_tell}
use Rattle.po_pred.proofs.laws.views_tell_predicates_apart.Goals as goal

pub returns : goal.returns
returns c = views_tell
