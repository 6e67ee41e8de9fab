use Rattle.po_ir.proofs.Sites.{sites_are_calls}
use Rattle.po_ir.proofs.laws.sites_are_calls.Goals as goal

pub returns : goal.returns
returns c = sites_are_calls
