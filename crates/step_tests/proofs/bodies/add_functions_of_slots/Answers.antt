use Rattle.step_tests.proofs.bodies.add_functions_of_slots.Goals as goal

pub returns : goal.returns
returns c = λ all. c.in_ok-add_function-7.ensures (c.in_ok-add_function-6.ensures (c.in_ok-add_function-5.ensures (c.in_ok-add_function-4.ensures (c.in_ok-add_function-3.ensures (c.in_ok-add_function-2.ensures (c.in_ok-add_function.ensures all))))))
