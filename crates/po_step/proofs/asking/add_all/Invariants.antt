use Rattle.std.specs.Prelude.{◌≡◌, ◌++◌, take}
use Rattle.po_step.proofs.asking.add_all.Given as goal

abbrev pub invariant-loop-asked : goal.invariant-loop-asked
invariant-loop-asked l = l.list ≡ l.initial.list ++ take l.asked-index l.more
