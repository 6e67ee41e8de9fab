use Rattle.po_fun_laws.proofs.OneMarking as marking
use Rattle.po_fun_laws.proofs.laws.marks_are_one.Goals as goal

pub returns : goal.returns
returns c = marking.marks_are_one
