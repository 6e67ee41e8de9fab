use Rattle.std.proofs.Common.{◌≡◌, ◌++◌}
use Rattle.po_interval.proofs.sets.listed.Given as goal

abbrev pub invariant-loop-v : goal.invariant-loop-v
invariant-loop-v l = l.numbers ≡ l.list ++ l.v-iterator
