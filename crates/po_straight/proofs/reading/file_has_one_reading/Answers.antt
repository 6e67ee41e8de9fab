use Rattle.po_straight.proofs.Sequences.{one_reading}
use Rattle.po_straight.proofs.reading.file_has_one_reading.Goals as goal

pub returns : goal.returns
returns c = one_reading
