use Rattle.std.proofs.Common.{refl}
use Rattle.po_astate.proofs.StatesLaws.{tested_join, state_tells}
use Rattle.po_astate.proofs.laws.states_are_joined.Goals as goal

pub returns : goal.returns
returns c = record {
  joined = λ registers slot_count.
      tested_join c.members_are_ordered.ensures.exact c.members_are_ordered.ensures.antisymmetric c.join_of_members_is_least.ensures.least registers slot_count;
  exact = λ registers slot_count s u ps pu.
      state_tells c.members_are_ordered.ensures.exact c.members_are_ordered.ensures.antisymmetric c.join_of_members_is_least.ensures.least registers slot_count s u ps pu;
  least = λ s. refl;
}
