use Rattle.std.specs.Prelude.{◌≡◌, ◌++◌, None, replicate}
use Rattle.po_step.proofs.calls.add_nones.Given as goal

abbrev pub invariant-loop : goal.invariant-loop
invariant-loop g l = l.list ≡ l.initial.list ++ replicate l.counter None
