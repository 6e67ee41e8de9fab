use Rattle.po_lex.proofs.Unique.{one_failure}
use Rattle.po_lex.proofs.laws.one_failure.Goals as goal

pub returns : goal.returns
returns c = one_failure
