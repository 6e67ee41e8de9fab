use Rattle.po_holds.proofs.Telling.{first_met, then_tells}
use Rattle.po_holds.proofs.Asked.{not_before}
use Rattle.po_holds.proofs.asking.lies_between.Goals as goal

pub returns-then-is_before : goal.returns-then-is_before
returns-then-is_before c =
    first_met c.is_before.result (not_before c.is_before.result _ _ c.is_before.ensures) (λ x. x, λ x. x) c.if-is_before.true

pub returns : goal.returns
returns c =
    then_tells c.is_before.result c.is_before-2.result (not_before c.is_before.result _ _ c.is_before.ensures) c.is_before-2.ensures (λ x. x, λ x. x) c.if-is_before.false
