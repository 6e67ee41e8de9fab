use Rattle.po_memory.proofs.Came.{itself, through, further}
use Rattle.po_memory.proofs.laws.changes_add_up.Goals as goal

pub returns : goal.returns
returns c = record { none = itself; through = through; further = further }
