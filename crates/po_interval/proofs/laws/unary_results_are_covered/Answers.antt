use Rattle.po_interval.proofs.Covers.{conv_covers}
use Rattle.po_interval.proofs.Covered.{un_covers}
use Rattle.po_interval.proofs.laws.unary_results_are_covered.Goals as goal

pub returns-clause-unary : goal.returns-clause-unary
returns-clause-unary c = un_covers

pub returns-clause-converted : goal.returns-clause-converted
returns-clause-converted c = conv_covers
