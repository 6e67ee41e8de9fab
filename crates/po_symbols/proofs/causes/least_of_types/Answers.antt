use Rattle.std.proofs.Common.{refl, ap, sym, ◌∙◌, subst}
use Rattle.po_symbols.specs.Linking.{AreClashing}
use Rattle.po_symbols.specs.Pairs.{clash_of}
use Rattle.po_symbols.specs.Causes.{IsPairOf}
use Rattle.po_symbols.proofs.SaidOf.{types_least}
use Rattle.po_symbols.proofs.Found.{searched_none, searched_more, nothing_found, first_found}
use Rattle.po_symbols.proofs.causes.least_of_types.Goals as goal

pub loop-name-init : goal.loop-name-init
loop-name-init c = searched_none clash_of _ _ (c.into_iter-name-iterator.ensures.into_iter_gives ∙ c.iter-name-items.ensures.rest)

pub loop-name-preserved : goal.loop-name-preserved
loop-name-preserved c = searched_more clash_of _ _ _ _ c.loop-name.invariant c.in-Some.ensures.steps (sym (ap clash_of c.as_slice.ensures) ∙ sym c.first_clash.ensures ∙ c.in_default.is)

pub returns-in-Some-first_clash : goal.returns-in-Some-first_clash
returns-in-Some-first_clash c = λ units h.
    first_found clash_of (AreClashing units) c.args.said.now refl (λ q. subst (λ l. IsPairOf (AreClashing units q) (clash_of l)) (sym (h.each q)) (types_least q units)) c.iter-name-items.ensures.ordered
    c.loop-name.name-iterator c.next.new.self c.in-Some.name.now c.in-Some.files.now c.in-Some-first_clash.pair c.in_ok-cause_of.field-0 c.loop-name.invariant c.in-Some.ensures.steps
    (sym (ap clash_of c.as_slice.ensures) ∙ sym c.first_clash.ensures ∙ c.in-Some-first_clash.is) c.in_ok-cause_of.ensures

pub returns : goal.returns
returns c = λ units h.
    nothing_found clash_of (AreClashing units) c.args.said.now refl (λ q. subst (λ l. IsPairOf (AreClashing units q) (clash_of l)) (sym (h.each q)) (types_least q units))
    c.loop-name.name-iterator c.loop-name.invariant c.in-None.ensures.steps.0
