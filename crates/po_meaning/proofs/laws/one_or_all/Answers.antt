use Rattle.po_meaning.proofs.Deciding.{one_or_all}
use Rattle.po_meaning.proofs.laws.one_or_all.Goals as goal

pub returns : goal.returns
returns c = one_or_all
