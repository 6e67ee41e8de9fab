use Rattle.std.proofs.Common.{◌≡◌, take, map, false}
use Rattle.ledger_tests.proofs.untaken.all_open.Given as goal

abbrev pub invariant-loop-item : goal.invariant-loop-item
invariant-loop-item g l = l.hand ≡ map (λ o. (o, false)) (take l.item-index l.items)
