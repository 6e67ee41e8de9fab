use Rattle.po_astate.proofs.ProperStays.{joined_proper, rounded_proper}
use Rattle.po_astate.proofs.laws.proper_states_stay_proper.Goals as goal

pub returns : goal.returns
returns c = record {
  joined = λ f.
      joined_proper f c.members_are_ordered.ensures.exact c.members_are_ordered.ensures.antisymmetric c.join_of_members_is_least.ensures.least
      c.join_of_members_is_least.ensures.of_both;
  rounded = λ f s head ends h. rounded_proper f c.rounding_is_to_the_nearest.ensures head c.rounding_widens.ensures ends s h;
}
