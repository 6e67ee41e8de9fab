use Rattle.std.specs.Prelude.{◌≡◌, map, take}
use Rattle.po_ir.specs.Whole.{type_of}
use Rattle.po_step.proofs.calls.types_of.Given as goal

abbrev pub invariant-loop-register : goal.invariant-loop-register
invariant-loop-register l = l.types ≡ map type_of (take l.register-index l.registers)
