use Rattle.std.proofs.Common.{subst, sym}
use Rattle.po_ir.specs.declared.instr.Ty.{Ty}
use Rattle.po_meaning.specs.Local.{Converts}
use Rattle.po_operate.specs.Finding.{Finds}
use Rattle.po_operate.proofs.arithmetic.converted.Goals as goal

pub returns-in-Int : goal.returns-in-Int
returns-in-Int c = subst (λ (k : Ty). Finds c.converted_number.result (Converts k c.args.frame.now c.args.from.now)) (sym c.in-Int.is) c.converted_number.ensures
