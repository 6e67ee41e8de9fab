use Rattle.po_astate.proofs.RoundingLaws.{state_stays, state_wider, state_rises}
use Rattle.po_astate.proofs.laws.rounded_states_are_above.Goals as goal

pub returns : goal.returns
returns c = record {
  stays = λ registers slot_count s th head h. state_stays c.rounding_widens.ensures th head registers slot_count s h;
  above = λ s th head. state_wider c.rounding_widens.ensures th head s;
  monotone = λ s u th head h. state_rises c.rounding_widens.ensures th head s u h;
}
