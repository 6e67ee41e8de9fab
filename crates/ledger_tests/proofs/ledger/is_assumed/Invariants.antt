use Rattle.std.proofs.Common.{take}
use Rattle.std.specs.List.{Contains}
use Rattle.ledger_tests.proofs.ledger.is_assumed.Given as goal

abbrev pub invariant-loop-pair : goal.invariant-loop-pair
invariant-loop-pair g l = Contains (take l.pair-index l.assumed) (l.f, l.q) → ⊥
