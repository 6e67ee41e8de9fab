use Rattle.po_link.proofs.OneLinked.{one_project}
use Rattle.po_link.proofs.laws.joined_to_one.Goals as goal

pub returns : goal.returns
returns c = one_project
