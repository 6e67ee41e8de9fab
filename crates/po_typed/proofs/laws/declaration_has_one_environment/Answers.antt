use Rattle.po_typed.proofs.OneDeclaration.{one_file}
use Rattle.po_typed.proofs.laws.declaration_has_one_environment.Goals as goal

pub returns : goal.returns
returns c = λ file f g d D E. one_file c.format_is_one.ensures c.layout_is_one.ensures D E
