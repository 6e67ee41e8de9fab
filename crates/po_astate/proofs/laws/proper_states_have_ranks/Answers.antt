use Rattle.po_astate.specs.ProperRanks.{proper_ranked}
use Rattle.po_astate.proofs.laws.proper_states_have_ranks.Goals as goal

pub returns : goal.returns
returns c = λ f. proper_ranked f c.members_are_ordered.ensures.exact
