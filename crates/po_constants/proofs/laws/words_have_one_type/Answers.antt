use Rattle.po_typed.proofs.OneWordType.{word_type_is_one}
use Rattle.po_constants.proofs.laws.words_have_one_type.Goals as goal

pub returns : goal.returns
returns c = λ target specs t u f g. word_type_is_one f g
