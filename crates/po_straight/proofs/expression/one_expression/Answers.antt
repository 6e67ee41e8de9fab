use Rattle.po_straight.proofs.Single.{one_expression}
use Rattle.po_straight.proofs.expression.one_expression.Goals as goal

pub returns : goal.returns
returns c = one_expression
