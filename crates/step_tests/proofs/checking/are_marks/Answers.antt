use Rattle.std.proofs.Common.{arith, refl}
use Rattle.step_tests.proofs.Whole.{marks_all, marks_more}
use Rattle.step_tests.proofs.checking.are_marks.Goals as goal

pub loop-n-preserved : goal.loop-n-preserved
loop-n-preserved c = marks_more c.args.marks.now c.args.nodes.now c.loop-n.n c.loop-n.invariant (c.if-not-fits_at.ensures refl)

pub returns : goal.returns
returns c = λ _. marks_all c.args.marks.now c.args.nodes.now c.loop-n.n (c.if-not-starts_outside.ensures refl) (omega arith) c.loop-n.invariant
