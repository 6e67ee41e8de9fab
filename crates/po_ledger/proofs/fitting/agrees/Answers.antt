use Rattle.po_ledger.proofs.Agreeing.{both_tell}
use Rattle.po_ledger.proofs.fitting.agrees.Goals as goal

pub returns : goal.returns
returns g c = both_tell c.args.entry.now.1 c.has_verdict.result c.has_verdict.ensures
