use Rattle.po_bases.specs.General.{join_rises}
use Rattle.po_bases.proofs.BasesLaws.{bases_join}
use Rattle.po_bases.proofs.laws.joins_of_bases_rise.Goals as goal

pub returns : goal.returns
returns c = λ x y v w px py pv pw h k. join_rises bases_join x y v w px py pv pw h k
