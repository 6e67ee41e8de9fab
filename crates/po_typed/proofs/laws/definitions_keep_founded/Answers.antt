use Rattle.po_typed.proofs.KeepsFounded.{keeps_definition}
use Rattle.po_typed.proofs.laws.definitions_keep_founded.Goals as goal

pub returns : goal.returns
returns c = λ file f tree ps h D. keeps_definition h D
