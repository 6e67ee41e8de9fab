use Rattle.po_typed.specs.Operands.{tested_number, tested_pointer}
use Rattle.po_operands.proofs.values.tested.Goals as goal

pub returns-in-Int : goal.returns-in-Int
returns-in-Int c = rw (c.in-Int.is, c.promoted.ensures) (tested_number c.in-Int.number)

pub returns-in_ok-share-in-Ptr : goal.returns-in_ok-share-in-Ptr
returns-in_ok-share-in-Ptr c = rw (c.in_ok-share-in-Ptr.ensures, c.in-Ptr.is) (tested_pointer c.in-Ptr.field-0)
