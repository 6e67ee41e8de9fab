use Rattle.po_lex.proofs.Divisions.{one_shape_failure}
use Rattle.po_lex.proofs.laws.one_shape_failure.Goals as goal

pub returns : goal.returns
returns c = one_shape_failure
