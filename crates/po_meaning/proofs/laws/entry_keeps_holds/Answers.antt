use Rattle.po_meaning.proofs.Entry.{entry_keeps_holds}
use Rattle.po_meaning.proofs.laws.entry_keeps_holds.Goals as goal

pub returns : goal.returns
returns c = entry_keeps_holds c.subst_keeps_holds.ensures
