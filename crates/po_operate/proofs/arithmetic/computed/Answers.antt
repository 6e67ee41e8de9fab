use Rattle.std.proofs.Common.{subst, sym}
use Rattle.po_ir.specs.declared.instr.Ty.{Ty}
use Rattle.po_meaning.specs.Local.{Computes}
use Rattle.po_operate.specs.Finding.{Finds}
use Rattle.po_operate.proofs.arithmetic.computed.Goals as goal

pub returns-in-Int : goal.returns-in-Int
returns-in-Int c = subst (λ (k : Ty). Finds c.computed_number.result (Computes c.args.op k c.args.frame.now c.args.a.now c.args.b.now)) (sym c.in-Int.is) c.computed_number.ensures

pub returns-in-Ptr : goal.returns-in-Ptr
returns-in-Ptr c = subst (λ (k : Ty). Finds c.compared.result (Computes c.args.op k c.args.frame.now c.args.a.now c.args.b.now)) (sym c.in-Ptr.is) c.compared.ensures
