use Rattle.po_lex.proofs.Divisions.{pieces_or_failure}
use Rattle.po_lex.proofs.laws.pieces_or_failure.Goals as goal

pub returns : goal.returns
returns c = pieces_or_failure
