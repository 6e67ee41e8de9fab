use Rattle.po_lists.proofs.Results.{if_ok-map}
use Rattle.po_choices.proofs.Whether.{whether_as}
use Rattle.po_type_parts.proofs.AssignedTypes.{from_zero, zero_from, from_pointer}
use Rattle.po_type_parts.proofs.assigning.fits_pointer.Goals as goal

pub returns-in-Int : goal.returns-in-Int
returns-in-Int c = if_ok-map c.is_null.result (λ b. whether_as b (from_zero c.args.context.now c.args.x.now c.args.v.now c.args.to.now c.in-Int.field-0 c.in-Int.is) (zero_from c.args.context.now c.args.x.now c.args.v.now c.args.to.now c.in-Int.field-0 c.in-Int.is)) c.is_null.ensures

pub returns-in-Ptr : goal.returns-in-Ptr
returns-in-Ptr c = from_pointer c.args.context.now c.args.x.now c.args.v.now c.args.to.now c.in-Ptr.field-0 c.in-Ptr.is
