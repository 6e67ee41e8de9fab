use Rattle.po_type_calls.proofs.Formatted.{no_format}
use Rattle.po_type_calls.proofs.reading.formats.Goals as goal

pub returns-in-None : goal.returns-in-None
returns-in-None c = no_format c.args.target c.args.xs.now c.index-xs-0.result c.index-xs-0.is (rw c.in-None.is at c.in_ok-reads.ensures)
