use Rattle.std.proofs.Common.{◌≡◌, take, map}
use Rattle.po_app.specs.Lowering.{parameter_register}
use Rattle.po_app.proofs.lowering.parameter_registers.Given as goal

abbrev pub invariant-loop-name : goal.invariant-loop-name
invariant-loop-name l = l.regs ≡ map parameter_register (take l.name-index l.name-items)
