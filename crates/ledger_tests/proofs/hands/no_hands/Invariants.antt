use Rattle.std.proofs.Common.{◌≡◌, replicate, None}
use Rattle.ledger_tests.proofs.hands.no_hands.Given as goal

abbrev pub invariant-loop-made : goal.invariant-loop-made
invariant-loop-made g l = l.hands.items ≡ replicate l.made None
