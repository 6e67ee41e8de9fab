use Rattle.po_meaning.proofs.First.{none_is_first}
use Rattle.po_meaning.proofs.laws.steps_violate_nothing.Goals as goal

pub returns : goal.returns
returns c = none_is_first
