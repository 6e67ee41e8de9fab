use Rattle.std.specs.Prelude.{◌≡◌, ◌++◌, take}
use Rattle.po_gen.proofs.primary.add_all.Given as goal

abbrev pub invariant-loop-predicate : goal.invariant-loop-predicate
invariant-loop-predicate l = l.list ≡ l.initial.list ++ take l.predicate-index l.more
