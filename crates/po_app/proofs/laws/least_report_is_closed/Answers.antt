use Rattle.po_app.proofs.Soundness.Least.{least_closed}
use Rattle.po_app.proofs.laws.least_report_is_closed.Goals as goal

pub returns : goal.returns
returns c = least_closed
