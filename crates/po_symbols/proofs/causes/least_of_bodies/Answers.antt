use Rattle.std.proofs.Common.{refl, ap, sym, ◌∙◌, subst}
use Rattle.po_symbols.specs.Linking.{AreTwoBodies}
use Rattle.po_symbols.specs.Pairs.{two_of}
use Rattle.po_symbols.specs.Causes.{IsPairOf}
use Rattle.po_symbols.proofs.SaidOf.{bodies_least}
use Rattle.po_symbols.proofs.Found.{searched_none, searched_more, nothing_found, first_found}
use Rattle.po_symbols.proofs.causes.least_of_bodies.Goals as goal

pub loop-name-init : goal.loop-name-init
loop-name-init c = searched_none two_of _ _ (c.into_iter-name-iterator.ensures.into_iter_gives ∙ c.iter-name-items.ensures.rest)

pub loop-name-preserved : goal.loop-name-preserved
loop-name-preserved c = searched_more two_of _ _ _ _ c.loop-name.invariant c.in-Some.ensures.steps (sym (ap two_of c.as_slice.ensures) ∙ sym c.first_two.ensures ∙ c.in_default.is)

pub returns-in-Some-first_two : goal.returns-in-Some-first_two
returns-in-Some-first_two c = λ units h.
    first_found two_of (AreTwoBodies units) c.args.said.now refl (λ q. subst (λ l. IsPairOf (AreTwoBodies units q) (two_of l)) (sym (h.each q)) (bodies_least q units)) c.iter-name-items.ensures.ordered
    c.loop-name.name-iterator c.next.new.self c.in-Some.name.now c.in-Some.files.now c.in-Some-first_two.pair c.in_ok-cause_of.field-0 c.loop-name.invariant c.in-Some.ensures.steps
    (sym (ap two_of c.as_slice.ensures) ∙ sym c.first_two.ensures ∙ c.in-Some-first_two.is) c.in_ok-cause_of.ensures

pub returns : goal.returns
returns c = λ units h.
    nothing_found two_of (AreTwoBodies units) c.args.said.now refl (λ q. subst (λ l. IsPairOf (AreTwoBodies units q) (two_of l)) (sym (h.each q)) (bodies_least q units))
    c.loop-name.name-iterator c.loop-name.invariant c.in-None.ensures.steps.0
