use Rattle.po_memory.proofs.Passed.{kept}
use Rattle.po_memory.proofs.laws.subst_keeps_holds.Goals as goal

pub returns : goal.returns
returns c = kept
