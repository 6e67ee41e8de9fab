use Rattle.std.proofs.Common.{sym, ◌∙◌, refl}
use Rattle.std.proofs.lemmas.List.{map_push}
use Rattle.po_tree.proofs.Sets.{hides_none, hides_name, none_contained, walks_on, walked}
use Rattle.po_tree.proofs.names.hide_all.Goals as goal

pub loop-name-init : goal.loop-name-init
loop-name-init c = ((hides_none _ (λ x h. none_contained x h), refl, refl), sym (c.into_iter-name-iterator.ensures.into_iter_gives ∙ c.iter-name-items.ensures.rest))

pub loop-name-preserved : goal.loop-name-preserved
loop-name-preserved c =
    let i = c.loop-name.invariant in
    let h = c.in_ok-hide.ensures in (
      (rw (map_push (λ x. x.now) c.loop-name.yielded c.in-Some.name) (hides_name _ _ i.0.0 h.ok.0), h.ok.1 ∙ i.0.1, h.ok.2 ∙ i.0.2),
      walks_on (λ x. x.now) _ c.loop-name.yielded c.in-Some.name _ _ i.1 c.in-Some.ensures.steps,
    )

pub returns : goal.returns
returns c = let i = c.loop-name.invariant in rw (sym (walked (λ x. x.now) c.args.hidden.now c.loop-name.yielded _ i.1 c.in-None.ensures.steps.0)) i.0
