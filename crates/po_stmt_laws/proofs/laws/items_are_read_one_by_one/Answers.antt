use Rattle.po_stmt_laws.proofs.Items.{items_both}
use Rattle.po_stmt_laws.proofs.laws.items_are_read_one_by_one.Goals as goal

pub returns : goal.returns
returns c = λ types room signs left xs none. items_both none
