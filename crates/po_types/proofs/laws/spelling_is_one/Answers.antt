use Rattle.po_types.proofs.OneSpelling.{one_spelling}
use Rattle.po_types.proofs.laws.spelling_is_one.Goals as goal

pub returns : goal.returns
returns c = λ env t a b f g. one_spelling env f g
