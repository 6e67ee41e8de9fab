use Rattle.po_link.proofs.OneLinked.{stands_by_file}
use Rattle.po_link.proofs.laws.functions_stand_by_file.Goals as goal

pub returns : goal.returns
returns c = stands_by_file
