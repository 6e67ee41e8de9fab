use Rattle.po_ir.proofs.Within.{within}
use Rattle.po_ir.proofs.laws.ways_stay_within.Goals as goal

pub returns : goal.returns
returns c = within
