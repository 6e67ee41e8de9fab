use Rattle.po_stmt_laws.proofs.Once.{one_item_read}
use Rattle.po_stmt_laws.proofs.laws.one_item_is_read.Goals as goal

pub returns : goal.returns
returns c = λ types behind after room more signs left rest s t w v. one_item_read w v
