use Rattle.po_app.proofs.One.{one_text}
use Rattle.po_app.proofs.laws.report_is_one.Goals as goal

pub returns : goal.returns
returns c = one_text
