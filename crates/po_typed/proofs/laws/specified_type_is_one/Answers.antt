use Rattle.po_typed.proofs.OneSpecifier.{one_specified}
use Rattle.po_typed.proofs.laws.specified_type_is_one.Goals as goal

pub returns : goal.returns
returns c = λ ctx a b specs t u k m ps qs f g. let s = one_specified c.format_is_one.ensures c.layout_is_one.ensures f g in (s.type, s.const, s.context, s.pairs)
