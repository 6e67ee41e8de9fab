use Rattle.po_exp_read.proofs.Longest.{one_tree}
use Rattle.po_exp_read.proofs.read.one_tree.Goals as goal

pub returns : goal.returns
returns c = λ types signs x y w v. one_tree w v
