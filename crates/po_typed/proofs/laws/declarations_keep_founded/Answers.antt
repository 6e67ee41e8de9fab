use Rattle.po_typed.proofs.KeepsFounded.{keeps_file}
use Rattle.po_typed.proofs.laws.declarations_keep_founded.Goals as goal

pub returns : goal.returns
returns c = λ file f d h D. keeps_file h D
