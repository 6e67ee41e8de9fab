use Rattle.po_stmt_laws.proofs.Once.{no_room}
use Rattle.po_stmt_laws.proofs.laws.no_statement_is_read_without_room.Goals as goal

pub returns : goal.returns
returns c = λ types signs left s w. no_room w
