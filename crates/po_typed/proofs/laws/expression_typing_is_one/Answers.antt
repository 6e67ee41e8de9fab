use Rattle.po_typed.proofs.OneExpression.{one_type}
use Rattle.po_typed.proofs.laws.expression_typing_is_one.Goals as goal

pub returns : goal.returns
returns c = λ ctx x t u to to' ps qs f g. let s = one_type c.format_is_one.ensures ctx f g in (s.type, s.pairs)
