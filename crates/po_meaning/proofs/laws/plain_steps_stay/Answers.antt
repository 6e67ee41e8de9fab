use Rattle.po_meaning.proofs.Plain.{plain_steps_stay}
use Rattle.po_meaning.proofs.laws.plain_steps_stay.Goals as goal

pub returns : goal.returns
returns c = plain_steps_stay c.members_of_results_are_of_type.ensures c.results_are_allowed.ensures.binary
