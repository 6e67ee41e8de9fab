use Rattle.po_app.proofs.Soundness.Progress.{goes_on}
use Rattle.po_app.proofs.laws.runs_go_on.Goals as goal

pub returns : goal.returns
returns c = goes_on
