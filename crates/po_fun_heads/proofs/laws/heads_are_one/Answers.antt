use Rattle.po_fun_heads.proofs.OneHead.{one_head}
use Rattle.po_fun_heads.proofs.laws.heads_are_one.Goals as goal

pub returns : goal.returns
returns c = one_head
