use Rattle.po_stmt_laws.proofs.Once.{one_list_read}
use Rattle.po_stmt_laws.proofs.laws.one_list_is_read.Goals as goal

pub returns : goal.returns
returns c = λ types room more signs left rest xs ys w v. one_list_read w v
