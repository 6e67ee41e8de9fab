use Rattle.po_typed.proofs.KeepsFounded.{first_is_founded}
use Rattle.po_typed.proofs.laws.first_context_is_founded.Goals as goal

pub returns : goal.returns
returns c = λ target. first_is_founded target
