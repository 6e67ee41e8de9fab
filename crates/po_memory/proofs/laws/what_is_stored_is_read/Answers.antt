use Rattle.po_memory.proofs.ReadBack.{stores_are_read}
use Rattle.po_memory.proofs.laws.what_is_stored_is_read.Goals as goal

pub returns : goal.returns
returns c = stores_are_read
