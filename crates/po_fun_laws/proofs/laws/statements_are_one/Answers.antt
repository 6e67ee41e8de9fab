use Rattle.po_fun_laws.proofs.OneStatement.{one_statement, one_items}
use Rattle.po_fun_laws.proofs.laws.statements_are_one.Goals as goal

pub returns-clause-statements : goal.returns-clause-statements
returns-clause-statements c = λ types x t left rest w v low high q e f. one_statement w v low high left rest q e f

pub returns-clause-items : goal.returns-clause-items
returns-clause-items c = λ types xs ys left rest w v low high q. one_items w v low high left rest q
