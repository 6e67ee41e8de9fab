use Rattle.po_app.proofs.Soundness.Starting.{starts}
use Rattle.po_app.proofs.laws.every_call_starts.Goals as goal

pub returns : goal.returns
returns c = starts
