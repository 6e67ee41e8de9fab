use Rattle.po_step.specs.Stepping.{IsStateOf}
use Rattle.step_tests.proofs.runs.told.Given as goal

abbrev pub invariant-loop : goal.invariant-loop
invariant-loop l = IsStateOf l.p l.s
