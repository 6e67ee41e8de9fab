use Rattle.po_interval.proofs.Nearest.{widens}
use Rattle.po_interval.proofs.laws.rounding_widens.Goals as goal

pub returns : goal.returns
returns c = widens
