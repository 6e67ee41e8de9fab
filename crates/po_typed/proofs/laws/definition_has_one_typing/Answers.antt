use Rattle.po_typed.proofs.OneStatement.{one_typing_of_definition}
use Rattle.po_typed.proofs.laws.definition_has_one_typing.Goals as goal

pub returns : goal.returns
returns c = λ file f g d e q. one_typing_of_definition c.format_is_one.ensures c.layout_is_one.ensures f g d e q
