use Rattle.std.specs.Prelude.{All}
use Rattle.po_ir.specs.declared.graph.Reg.{Reg as Register}
use Rattle.po_ir.specs.IntTypes.{IsTypeOfTarget}
use Rattle.meaning_tests.proofs.building.registers.Given as goal

abbrev pub invariant-loop-name : goal.invariant-loop-name
invariant-loop-name l = All (λ (r : Register). IsTypeOfTarget r.ty) l.regs
