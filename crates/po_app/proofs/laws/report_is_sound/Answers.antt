use Rattle.po_app.proofs.Soundness.Along.{sound}
use Rattle.po_app.proofs.laws.report_is_sound.Goals as goal

pub returns : goal.returns
returns c = sound
