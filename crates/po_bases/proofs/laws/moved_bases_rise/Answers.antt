use Rattle.po_bases.proofs.Covered.{moving_rises}
use Rattle.po_bases.proofs.laws.moved_bases_rise.Goals as goal

pub returns : goal.returns
returns c = λ by more grain lesser between less a b below. moving_rises by more grain lesser between less a b below
