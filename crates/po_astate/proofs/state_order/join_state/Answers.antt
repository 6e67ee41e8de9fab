use Rattle.std.proofs.Common.{◌≡◌, sym, ◌∙◌, subst, IfOk}
use Rattle.po_astate.proofs.StatesLaws.{joins_to_second, joins_to_first}
use Rattle.po_astate.proofs.state_order.join_state.Goals as goal

pub returns-then-below_state : goal.returns-then-below_state
returns-then-below_state c =
    subst (λ w. IfOk c.share.result (λ v. v ≡ w))
    (sym (joins_to_second c.members_are_ordered.ensures.exact c.members_are_ordered.ensures.antisymmetric c.join_of_members_is_least.ensures.least
    c.requires.registers c.requires.slot_count c.args.a.now c.args.b.now c.requires.first c.requires.second (sym c.below_state.ensures ∙ c.if-below_state.true)))
    c.share.ensures

pub returns-then-below_state-2 : goal.returns-then-below_state-2
returns-then-below_state-2 c =
    subst (λ w. IfOk c.share-then-below_state-2.result (λ v. v ≡ w))
    (sym (joins_to_first c.members_are_ordered.ensures.exact c.members_are_ordered.ensures.antisymmetric c.join_of_members_is_least.ensures.least
    c.requires.registers c.requires.slot_count c.args.a.now c.args.b.now c.requires.first c.requires.second (sym c.below_state-2.ensures ∙ c.if-below_state-2.true)))
    c.share-then-below_state-2.ensures
