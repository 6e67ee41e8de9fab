use Rattle.po_init_read.proofs.One.{one_ended}
use Rattle.po_init_read.proofs.read.one_initialiser_before_an_end.Goals as goal

pub returns : goal.returns
returns c = one_ended c.one_tree_before_an_end.ensures
