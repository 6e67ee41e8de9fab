use Rattle.po_typed.specs.Initialisers.{scalar_number, scalar_pointer}
use Rattle.po_type_inits.proofs.scalars.is_scalar.Goals as goal

pub returns-in-Int : goal.returns-in-Int
returns-in-Int c = rw c.in-Int.is (scalar_number c.in-Int.field-0)

pub returns-in-Ptr : goal.returns-in-Ptr
returns-in-Ptr c = rw c.in-Ptr.is (scalar_pointer c.in-Ptr.field-0)
