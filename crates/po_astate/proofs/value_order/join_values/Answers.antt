use Rattle.std.proofs.Common.{◌≡◌, sym, ◌∙◌, subst, IfOk}
use Rattle.po_astate.proofs.ValuesLaws.{joins_to_second, joins_to_first}
use Rattle.po_astate.proofs.value_order.join_values.Goals as goal

pub returns-then-value_within : goal.returns-then-value_within
returns-then-value_within c =
    subst (λ w. IfOk c.share.result (λ v. v ≡ w))
    (sym (joins_to_second c.members_are_ordered.ensures.exact c.members_are_ordered.ensures.antisymmetric c.join_of_members_is_least.ensures.least
    c.args.a.now c.args.b.now c.requires.first c.requires.second (sym c.value_within.ensures ∙ c.if-value_within.true)))
    c.share.ensures

pub returns-then-value_within-2 : goal.returns-then-value_within-2
returns-then-value_within-2 c =
    subst (λ w. IfOk c.share-then-value_within-2.result (λ v. v ≡ w))
    (sym (joins_to_first c.members_are_ordered.ensures.exact c.members_are_ordered.ensures.antisymmetric c.join_of_members_is_least.ensures.least
    c.args.a.now c.args.b.now c.requires.first c.requires.second (sym c.value_within-2.ensures ∙ c.if-value_within-2.true)))
    c.share-then-value_within-2.ensures
