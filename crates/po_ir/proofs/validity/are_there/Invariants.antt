use Rattle.std.proofs.Common.{take}
use Rattle.std.specs.Prelude.{All}
use Rattle.po_ir.specs.Valid.{IsThere}
use Rattle.po_ir.proofs.validity.are_there.Given as goal

abbrev pub invariant-loop-operand : goal.invariant-loop-operand
invariant-loop-operand l = All (IsThere l.registers) (take l.operand-index l.operands)
