use Rattle.std.proofs.Common.{subst, sym}
use Rattle.po_ir.specs.declared.instr.Ty.{Ty}
use Rattle.po_meaning.specs.Local.{Tests}
use Rattle.po_operate.specs.Finding.{Finds}
use Rattle.po_operate.proofs.arithmetic.tested.Goals as goal

pub returns-in-Int : goal.returns-in-Int
returns-in-Int c = subst (λ (k : Ty). Finds c.test_numbers.result (Tests c.args.op k c.args.frame.now c.args.a.now c.args.b.now)) (sym c.in-Int.is) c.test_numbers.ensures

pub returns-in-Ptr : goal.returns-in-Ptr
returns-in-Ptr c = subst (λ (k : Ty). Finds c.test_pointers.result (Tests c.args.op k c.args.frame.now c.args.a.now c.args.b.now)) (sym c.in-Ptr.is) c.test_pointers.ensures
