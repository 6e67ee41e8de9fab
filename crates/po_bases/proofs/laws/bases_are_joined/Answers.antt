use Rattle.po_bases.proofs.BasesLaws.{bases_join}
use Rattle.po_bases.proofs.laws.bases_are_joined.Goals as goal

pub returns : goal.returns
returns c = bases_join
