use Rattle.po_typed.proofs.OneExpression.{one_named}
use Rattle.po_typed.proofs.laws.named_type_is_one.Goals as goal

pub returns : goal.returns
returns c = λ ctx name t u ps qs f g. let s = one_named c.format_is_one.ensures ctx f g in (s.type, s.pairs)
