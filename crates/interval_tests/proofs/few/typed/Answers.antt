use Rattle.interval_tests.proofs.few.typed.Goals as goal

pub returns : goal.returns
returns c = rw c.in_ok-converted.ensures (c.members_of_results_are_of_type.ensures.converted c.args.t c.args.a.now).of_type
