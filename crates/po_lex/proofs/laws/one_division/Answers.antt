use Rattle.po_lex.proofs.Unique.{one_division}
use Rattle.po_lex.proofs.laws.one_division.Goals as goal

pub returns : goal.returns
returns c = one_division
