use Rattle.std.proofs.Common.{refl}
use Rattle.po_lowering.proofs.UniqueExpressions.{one_unused}
use Rattle.po_lowering.proofs.laws.one_unused.Goals as goal

pub returns : goal.returns
returns c = λ f sc ns ms s t u a b d x p A B. one_unused A B refl refl
