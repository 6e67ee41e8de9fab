use Rattle.po_exp_parts.proofs.Quoted.{character_ends, no_character}
use Rattle.po_exp_parts.proofs.literals.is_character.Goals as goal

pub returns-in-Some : goal.returns-in-Some
returns-in-Some c = character_ends _ _ _ _ c.if-not-begins.ensures.front c.in-Some.ensures.exact c.is_closed.ensures

pub returns-in-None : goal.returns-in-None
returns-in-None c = ((λ h. absurd (cc)), (λ h. absurd (no_character _ c.in-None.ensures.exact h)))
