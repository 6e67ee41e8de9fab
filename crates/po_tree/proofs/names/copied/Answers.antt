use Rattle.std.proofs.Common.{sym, ◌∙◌}
use Rattle.std.proofs.lemmas.List.{map_push}
use Rattle.po_tree.proofs.Sets.{adds_none, adds_name, none_contained, walks_on, walked}
use Rattle.po_tree.proofs.Ascending.{ascending_none}
use Rattle.po_tree.proofs.names.copied.Goals as goal

pub loop-name-init : goal.loop-name-init
loop-name-init c = (
  rw c.new-copy.ensures (adds_none _ (λ x h. none_contained x h)),
  rw c.new-copy.ensures ascending_none,
  sym (c.into_iter-name-iterator.ensures.into_iter_gives ∙ c.iter-name-items.ensures.rest),
)

pub loop-name-preserved : goal.loop-name-preserved
loop-name-preserved c =
    let i = c.loop-name.invariant in (
      rw (map_push (λ x. x.now) c.loop-name.yielded c.in-Some.name) (adds_name _ _ i.0 c.in_ok-add.ensures.adds),
      c.in_ok-add.ensures.ascending,
      walks_on (λ x. x.now) _ c.loop-name.yielded c.in-Some.name _ _ i.2 c.in-Some.ensures.steps,
    )

pub returns-clause-same : goal.returns-clause-same
returns-clause-same c = let i = c.loop-name.invariant in rw (sym (walked (λ x. x.now) c.args.names.now c.loop-name.yielded _ i.2 c.in-None.ensures.steps.0)) i.0
