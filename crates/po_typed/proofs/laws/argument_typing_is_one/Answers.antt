use Rattle.std.proofs.Common.{refl}
use Rattle.po_typed.proofs.OneExpression.{one_passed}
use Rattle.po_typed.proofs.laws.argument_typing_is_one.Goals as goal

pub returns : goal.returns
returns c = λ ctx xs ts ps qs f g. one_passed c.format_is_one.ensures ctx f g refl
