use Rattle.std.specs.Prelude.{◌≡◌, take}
use Rattle.po_meaning.specs.Checks.{numbered}
use Rattle.po_step.proofs.asking.numbered.Given as goal

abbrev pub invariant-loop-predicate : goal.invariant-loop-predicate
invariant-loop-predicate l = l.list ≡ numbered l.f l.n 0 (take l.predicate-index l.predicates)
