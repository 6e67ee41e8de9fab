use Rattle.std.proofs.Common.{below_more, sym, ◌∙◌, refl}
use Rattle.po_exp_parts.proofs.Among.{is_there, is_other, is_nowhere}
use Rattle.po_exp_parts.proofs.words.is_among.Goals as goal

pub returns-then-eq : goal.returns-then-eq
returns-then-eq c =
    ((λ _. is_there (λ w. w.now) _ _ _ _ c.loop-word-test.true (sym c.eq.ensures ∙ c.if-eq.true)), (λ _. refl))

pub loop-word-preserved : goal.loop-word-preserved
loop-word-preserved c =
    below_more _ _ c.loop-word.invariant (is_other (λ w. w.now) _ _ _ _ c.loop-word-test.true (sym c.eq.ensures ∙ c.if-eq.false))

pub returns : goal.returns
returns c =
    ((λ h. absurd (cc)), (λ h. absurd (is_nowhere (λ w. w.now) _ _ _ c.loop-word-test.false c.loop-word.invariant h)))
