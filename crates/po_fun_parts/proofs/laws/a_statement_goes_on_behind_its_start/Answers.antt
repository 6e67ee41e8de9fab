use Rattle.po_fun_parts.proofs.Both.{statement_both}
use Rattle.po_fun_parts.proofs.laws.a_statement_goes_on_behind_its_start.Goals as goal

pub returns : goal.returns
returns c = λ types signs left rest begun s w. statement_both w
