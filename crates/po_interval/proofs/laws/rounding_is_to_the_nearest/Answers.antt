use Rattle.po_interval.proofs.Nearest.{nearest}
use Rattle.po_interval.proofs.laws.rounding_is_to_the_nearest.Goals as goal

pub returns : goal.returns
returns c = nearest
