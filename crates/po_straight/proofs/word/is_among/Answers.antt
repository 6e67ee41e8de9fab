use Rattle.std.proofs.Common.{below_more, sym, ◌∙◌, refl}
use Rattle.po_straight.proofs.Among.{is_there, is_other, is_nowhere}
use Rattle.po_straight.proofs.word.is_among.Goals as goal

pub returns-then-eq : goal.returns-then-eq
returns-then-eq c =
    ((λ _. is_there (λ w. w.now) _ _ _ _ c.loop-other-test.true (sym c.eq.ensures ∙ c.if-eq.true)), (λ _. refl))

pub loop-other-preserved : goal.loop-other-preserved
loop-other-preserved c =
    below_more _ _ c.loop-other.invariant (is_other (λ w. w.now) _ _ _ _ c.loop-other-test.true (sym c.eq.ensures ∙ c.if-eq.false))

pub returns : goal.returns
returns c =
    ((λ h. absurd (cc)), (λ h. absurd (is_nowhere (λ w. w.now) _ _ _ c.loop-other-test.false c.loop-other.invariant h)))
