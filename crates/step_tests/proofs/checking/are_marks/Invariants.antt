use Rattle.step_tests.specs.Bare.{AreMarksUpTo}
use Rattle.step_tests.proofs.checking.are_marks.Given as goal

abbrev pub invariant-loop-n : goal.invariant-loop-n
invariant-loop-n l = AreMarksUpTo l.marks l.nodes l.n
