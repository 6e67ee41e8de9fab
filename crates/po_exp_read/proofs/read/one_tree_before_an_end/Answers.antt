use Rattle.po_exp_read.proofs.Longest.{one_before_end}
use Rattle.po_exp_read.proofs.read.one_tree_before_an_end.Goals as goal

pub returns : goal.returns
returns c = one_before_end
