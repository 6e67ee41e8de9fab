use Rattle.std.proofs.Common.{◌≡◌, ◌<◌, ◌^◌, ◌*◌, take}
use Rattle.std.specs.Prelude.{decimal}
use Rattle.po_straight.proofs.word.constant.Given as goal

abbrev pub invariant-loop-at : goal.invariant-loop-at
invariant-loop-at l = (take l.at l.word ≡ decimal l.value) × (l.value < 2 ^ (4 * l.at))
