use Rattle.po_typed.proofs.OneExpression.{one_assigned}
use Rattle.po_typed.proofs.laws.assignment_typing_is_one.Goals as goal

pub returns : goal.returns
returns c = λ ctx x t ps qs f g. one_assigned c.format_is_one.ensures ctx f g
