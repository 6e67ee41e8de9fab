use Rattle.po_interval.proofs.Widening.{conv_monotone}
use Rattle.po_interval.proofs.Monotone.{bin_monotone, un_monotone}
use Rattle.po_interval.proofs.laws.wider_operands_have_wider_results.Goals as goal

pub returns-clause-binary : goal.returns-clause-binary
returns-clause-binary c = bin_monotone

pub returns-clause-unary : goal.returns-clause-unary
returns-clause-unary c = un_monotone

pub returns-clause-converted : goal.returns-clause-converted
returns-clause-converted c = conv_monotone
