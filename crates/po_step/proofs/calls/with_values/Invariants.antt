use Rattle.std.specs.Prelude.{◌≡◌, Some, map, take}
use Rattle.po_step.proofs.calls.with_values.Given as goal

abbrev pub invariant-loop-v : goal.invariant-loop-v
invariant-loop-v l = l.registers ≡ map Some (take l.v-index l.values)
