use Rattle.po_types.proofs.Promoting.{promotion_keeps}
use Rattle.po_types.proofs.laws.promotion_keeps_numbers.Goals as goal

pub returns : goal.returns
returns c = promotion_keeps
