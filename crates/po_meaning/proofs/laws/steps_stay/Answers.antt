use Rattle.po_meaning.proofs.Steps.{steps_stay}
use Rattle.po_meaning.proofs.laws.steps_stay.Goals as goal

pub returns : goal.returns
returns c = steps_stay c.members_of_results_are_of_type.ensures c.results_are_allowed.ensures.binary c.blocks_are_kept.ensures.stores c.blocks_are_kept.ensures.copies c.blocks_are_kept.ensures.fills
