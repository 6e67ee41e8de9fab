use Rattle.po_step.specs.Passing.{ArePassedUpTo}
use Rattle.po_step.proofs.calls.passed.Given as goal

abbrev pub invariant-loop-place : goal.invariant-loop-place
invariant-loop-place l = ArePassedUpTo l.frame l.types l.args l.place l.values
