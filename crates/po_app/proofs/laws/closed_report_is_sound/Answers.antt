use Rattle.po_app.proofs.Soundness.Along.{closed_sound}
use Rattle.po_app.proofs.laws.closed_report_is_sound.Goals as goal

pub returns : goal.returns
returns c = closed_sound
