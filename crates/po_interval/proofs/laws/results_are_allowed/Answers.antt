use Rattle.po_interval.proofs.Allowed.{bin_allows, un_allows, conv_allows}
use Rattle.po_interval.proofs.laws.results_are_allowed.Goals as goal

pub returns-clause-binary : goal.returns-clause-binary
returns-clause-binary c = bin_allows

pub returns-clause-unary : goal.returns-clause-unary
returns-clause-unary c = un_allows

pub returns-clause-converted : goal.returns-clause-converted
returns-clause-converted c = conv_allows
