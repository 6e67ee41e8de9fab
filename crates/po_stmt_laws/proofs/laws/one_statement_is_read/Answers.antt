use Rattle.po_stmt_laws.proofs.Once.{one_statement_read}
use Rattle.po_stmt_laws.proofs.laws.one_statement_is_read.Goals as goal

pub returns : goal.returns
returns c = λ types room more signs left rest s t w v. one_statement_read w v
