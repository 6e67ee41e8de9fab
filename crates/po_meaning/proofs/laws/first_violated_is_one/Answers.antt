use Rattle.po_meaning.proofs.First.{one_is_first}
use Rattle.po_meaning.proofs.laws.first_violated_is_one.Goals as goal

pub returns : goal.returns
returns c = one_is_first
