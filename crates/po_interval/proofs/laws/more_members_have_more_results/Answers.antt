use Rattle.po_interval.proofs.Allowed.{bin_widens, un_widens, conv_widens}
use Rattle.po_interval.proofs.laws.more_members_have_more_results.Goals as goal

pub returns-clause-binary : goal.returns-clause-binary
returns-clause-binary c = bin_widens

pub returns-clause-unary : goal.returns-clause-unary
returns-clause-unary c = un_widens

pub returns-clause-converted : goal.returns-clause-converted
returns-clause-converted c = conv_widens
