use Rattle.std.proofs.Common.{rules}
use Rattle.std.proofs.lemmas.List.Sorted.{answers_always}
use Rattle.ledger_tests.proofs.reporting.sort_by_first.Goals as goal

pub returns : goal.returns
returns g c = record {
  same = c.sort_unstable_by_key.ensures.permutation;
  sorted = c.sort_unstable_by_key.ensures.sorted (λ pair. pair.0) (answers_always _ _ _ (λ f a r h k. search rules));
}
