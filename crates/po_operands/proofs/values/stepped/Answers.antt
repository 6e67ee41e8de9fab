use Rattle.std.proofs.Common.{subst}
use Rattle.po_typed.specs.Operands.{IsComplete, stepped_number, stepped_pointer}
use Rattle.po_operands.proofs.values.stepped.Goals as goal

pub returns-in-Int : goal.returns-in-Int
returns-in-Int c = rw (c.in-Int.is, c.common.ensures) (stepped_number c.in-Int.number)

pub returns-in_ok-share-in-Ptr : goal.returns-in_ok-share-in-Ptr
returns-in_ok-share-in-Ptr c = rw (c.in_ok-share-in-Ptr.ensures, c.in-Ptr.is) (stepped_pointer c.in-Ptr.to (subst (IsComplete c.args.context.now) c.get.ensures c.if-not-is_complete.ensures))
