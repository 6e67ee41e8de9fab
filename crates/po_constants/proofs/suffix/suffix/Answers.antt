use Rattle.po_constants.proofs.Suffixes.{suffix_found}
use Rattle.po_constants.proofs.suffix.suffix.Goals as goal

pub returns : goal.returns
returns c = suffix_found c.args.text.now c.marks_of.result c.marks_of.ensures.among c.marks_of.ensures.row
