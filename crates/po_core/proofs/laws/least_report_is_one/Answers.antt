use Rattle.po_core.proofs.Single.{one_least_report}
use Rattle.po_core.proofs.laws.least_report_is_one.Goals as goal

pub returns : goal.returns
returns g c = λ r s is also. one_least_report _ g.met.R.Pred.Ord.total _ r s is also
