use Rattle.po_interval.proofs.Allowed.{results_are_of_type}
use Rattle.po_interval.proofs.laws.members_of_results_are_of_type.Goals as goal

pub returns : goal.returns
returns c = results_are_of_type
