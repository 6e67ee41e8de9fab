use Rattle.step_tests.proofs.Start.{behind, registers_of, single}
use Rattle.step_tests.proofs.building.registers.Goals as goal

pub returns : goal.returns
returns c = registers_of _ _ _ (behind _ _ _ _ c.in_ok-push-3.ensures.ok (behind _ _ _ _ c.in_ok-push-2.ensures.ok (single _ _ _ c.in_ok-push.ensures.ok c.new-list.ensures))) c.in_ok-v.ensures c.in_ok-p.ensures
