use Rattle.std.proofs.Common.{◌≡◌, take}
use Rattle.po_interval.specs.Sets as sets
use Rattle.po_interval.proofs.sets.insert_all.Given as goal

abbrev pub invariant-loop-v : goal.invariant-loop-v
invariant-loop-v l = l.numbers ≡ sets.insert_all l.initial.numbers (take l.v-index l.more)
