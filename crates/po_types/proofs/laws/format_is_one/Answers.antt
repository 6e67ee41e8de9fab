use Rattle.po_types.proofs.FormatPieces.{one_format}
use Rattle.po_types.proofs.laws.format_is_one.Goals as goal

pub returns : goal.returns
returns c = λ target format a b f g. one_format target f g
