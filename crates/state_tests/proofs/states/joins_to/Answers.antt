use Rattle.state_tests.proofs.states.joins_to.Goals as goal

pub join_state-requires : goal.join_state-requires
join_state-requires c = record { registers = 1; slot_count = 1; first = c.in_ok-first.ensures; second = c.in_ok-second.ensures }
