use Rattle.po_fun_parts.proofs.Begun.{each_begun}
use Rattle.po_fun_parts.proofs.laws.each_statement_has_a_start.Goals as goal

pub returns : goal.returns
returns c = λ types signs rest s w. each_begun w
