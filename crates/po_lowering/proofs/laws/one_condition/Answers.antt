use Rattle.std.proofs.Common.{refl}
use Rattle.po_lowering.proofs.UniqueExpressions.{one_condition}
use Rattle.po_lowering.proofs.laws.one_condition.Goals as goal

pub returns : goal.returns
returns c = λ f sc ns ms s t u a hit miss b d x p A B.
    let Q = one_condition A B refl refl in
    record { ends = Q.ends; states = Q.states; nodes = Q.nodes refl refl }
