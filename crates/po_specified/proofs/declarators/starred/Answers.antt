use Rattle.std.proofs.Common.{sym, ap, ◌∙◌, drop}
use Rattle.po_typed.specs.BaseTypes.{starred}
use Rattle.po_specified.proofs.Pointers.{star_more, no_star}
use Rattle.po_specified.proofs.declarators.starred.Goals as goal

pub loop-star-preserved : goal.loop-star-preserved
loop-star-preserved c =
    star_more c.in_ok-new.field-0 c.args.stars.now c.loop-star._star-index c.loop-star-test.true
    ∙ ap (λ p. starred p (drop c.loop-star._star-index c.args.stars.now)) c.in_ok-new.ensures
    ∙ c.loop-star.invariant

pub returns : goal.returns
returns c = sym (no_star c.loop-star.pointer c.args.stars.now c.loop-star._star-index c.loop-star-test.false) ∙ c.loop-star.invariant
