use Rattle.po_bases.proofs.Covered.{allows_up}
use Rattle.po_bases.proofs.laws.greater_bases_allow_more.Goals as goal

pub returns : goal.returns
returns c = λ value a b p. allows_up value a b p
