use Rattle.std.specs.List.{Contains}
use Rattle.ledger_tests.proofs.Changed.{written}
use Rattle.ledger_tests.proofs.remarking.remark.Goals as goal

pub returns : goal.returns
returns g c = written (λ o. Contains c.args.items.now o) _ c.args.to c.args.marks.now.items c.as_mut_slice.result.now c.remark_each.new.marks _ c.as_mut_slice.ensures.value c.as_mut_slice.ensures.len c.remark_each.ensures
