use Rattle.po_meaning.proofs.Following.{library_calls_pass}
use Rattle.po_meaning.proofs.laws.library_calls_pass.Goals as goal

pub returns : goal.returns
returns c = library_calls_pass
