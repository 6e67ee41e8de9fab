use Rattle.std.proofs.Common.{refl}
use Rattle.po_lower_nodes.proofs.Groups.{adds_none, tests_more, tests_all}
use Rattle.po_lower_nodes.proofs.blocks.case_tests.Goals as goal

pub loop-case-init : goal.loop-case-init
loop-case-init c = adds_none _ _ refl

pub loop-case-preserved : goal.loop-case-preserved
loop-case-preserved c = tests_more _ _ _ c.args.ty c.args.v c.args.spot.now c.args.cases.now c.loop-case.case-index _ c.loop-case-test.true c.loop-case.invariant c.in_ok-case_test.ensures

pub returns : goal.returns
returns c = tests_all _ _ c.args.ty c.args.v c.args.spot.now c.args.cases.now c.loop-case.case-index c.loop-case-test.false c.loop-case.invariant
