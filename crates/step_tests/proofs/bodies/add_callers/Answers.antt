use Rattle.step_tests.proofs.bodies.add_callers.Goals as goal

pub returns : goal.returns
returns c = λ all. c.in_ok-add_function-3.ensures (c.in_ok-add_function-2.ensures (c.in_ok-add_function.ensures all))
