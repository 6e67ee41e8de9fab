use Rattle.po_app.proofs.Exactly.{closed_exactly}
use Rattle.po_app.proofs.laws.closed_where_all_hold.Goals as goal

pub returns : goal.returns
returns c = closed_exactly
