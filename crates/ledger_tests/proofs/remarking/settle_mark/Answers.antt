use Rattle.std.proofs.Common.{◌≡◌}
use Rattle.ledger_tests.proofs.Changed.{written}
use Rattle.ledger_tests.proofs.remarking.settle_mark.Goals as goal

pub returns : goal.returns
returns g c = written (λ p. p ≡ c.args.o) _ _ c.args.marks.now.items c.as_mut_slice.result.now c.settle_each.new.marks _ c.as_mut_slice.ensures.value c.as_mut_slice.ensures.len c.settle_each.ensures
