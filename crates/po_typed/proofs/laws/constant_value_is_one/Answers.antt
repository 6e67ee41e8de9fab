use Rattle.po_typed.proofs.OneExpression.{one_constant}
use Rattle.po_typed.proofs.laws.constant_value_is_one.Goals as goal

pub returns : goal.returns
returns c = λ ctx x t u v w f g. let s = one_constant c.format_is_one.ensures ctx f g in (s.type, s.value)
