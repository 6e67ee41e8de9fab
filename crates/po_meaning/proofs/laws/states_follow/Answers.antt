use Rattle.po_meaning.proofs.Following.{states_follow}
use Rattle.po_meaning.proofs.laws.states_follow.Goals as goal

pub returns : goal.returns
returns c = states_follow
