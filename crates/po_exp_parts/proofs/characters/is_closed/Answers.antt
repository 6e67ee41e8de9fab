use Rattle.po_exp_parts.proofs.Quoted.{one_left}
use Rattle.po_exp_parts.proofs.characters.is_closed.Goals as goal

pub returns-then-text-at-ne1 : goal.returns-then-text-at-ne1
returns-then-text-at-ne1 c = ((λ h. absurd (cc)), (λ q. absurd (c.if-text-at-ne1.true (one_left _ _ _ q))))
