use Rattle.po_link.proofs.OneOutcome.{one_outcome}
use Rattle.po_link.proofs.laws.outcome_is_one.Goals as goal

pub returns : goal.returns
returns c = one_outcome
