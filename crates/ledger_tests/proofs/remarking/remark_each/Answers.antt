use Rattle.std.proofs.Common.{refl, arith}
use Rattle.std.specs.List.{Contains}
use Rattle.ledger_tests.proofs.Changed.{changed_more, changed_all}
use Rattle.ledger_tests.proofs.remarking.remark_each.Goals as goal

pub loop-i-init : goal.loop-i-init
loop-i-init g c = record { done = λ k d l. absurd (omega arith); left = λ k d l. refl }

pub loop-i-preserved : goal.loop-i-preserved
loop-i-preserved g c = changed_more (λ o. Contains c.args.items.now o) _ _ c.args.marks.now c.loop-i.marks c.loop-i.i c.index-marks-i.result c.mark_after.result c.loop-i-test.true c.loop-i.auto.marks c.loop-i.invariant c.index-marks-i.is c.mark_after.ensures

pub returns : goal.returns
returns g c = changed_all (λ o. Contains c.args.items.now o) _ _ c.args.marks.now c.loop-i.marks c.loop-i.i c.loop-i-test.false c.loop-i.auto.marks c.loop-i.invariant
