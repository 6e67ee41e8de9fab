use Rattle.po_app.proofs.Soundness.Along.{entries}
use Rattle.po_app.proofs.laws.entries_meet.Goals as goal

pub returns : goal.returns
returns c = entries
