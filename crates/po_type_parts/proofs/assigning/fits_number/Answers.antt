use Rattle.po_choices.proofs.Whether.{whether_true}
use Rattle.po_type_parts.proofs.AssignedTypes.{from_number, pointer_to_bool, bool_from_pointer}
use Rattle.po_type_parts.proofs.assigning.fits_number.Goals as goal

pub returns-in-Int : goal.returns-in-Int
returns-in-Int c = λ scope x. from_number scope x c.args.v.now c.args.t c.in-Int.field-0 c.in-Int.is

pub returns-in-Ptr : goal.returns-in-Ptr
returns-in-Ptr c = λ scope x. whether_true c.is_bool.result c.is_bool.ensures (pointer_to_bool scope x c.args.v.now c.args.t c.in-Ptr.field-0 c.in-Ptr.is) (bool_from_pointer scope x c.args.v.now c.args.t c.in-Ptr.field-0 c.in-Ptr.is)
