use Rattle.std.proofs.Common.{refl}
use Rattle.po_lowering.proofs.UniqueExpressions.{one_operand}
use Rattle.po_lowering.proofs.laws.one_value.Goals as goal

pub returns : goal.returns
returns c = λ f sc ns ms s t u a b d x p v w A B. one_operand A B refl refl
