use Rattle.po_step.specs.Checking.{HoldUpTo}
use Rattle.po_step.proofs.checking.first_failing.Given as goal

abbrev pub invariant-loop-place : goal.invariant-loop-place
invariant-loop-place l = HoldUpTo l.frame l.m.blocks l.list l.place
