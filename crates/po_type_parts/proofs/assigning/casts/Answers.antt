use Rattle.po_lists.proofs.Results.{if_ok-map}
use Rattle.po_choices.proofs.Whether.{found_as}
use Rattle.po_type_parts.proofs.AssignedTypes.{to_void, number_cast, number_as_assigned, pointer_cast, pointer_as_assigned}
use Rattle.po_type_parts.proofs.assigning.casts.Goals as goal

pub returns-in-Void : goal.returns-in-Void
returns-in-Void c = to_void c.args.context.now c.args.x.now c.args.v.now c.args.t.now c.in-Void.is

pub returns-in-Int : goal.returns-in-Int
returns-in-Int c = if_ok-map c.scalar_cast.result (λ o. found_as o (number_cast c.args.context.now c.args.x.now c.args.v.now c.args.t.now c.in-Int.field-0 c.in-Int.is) (number_as_assigned c.args.context.now c.args.x.now c.args.v.now c.args.t.now c.in-Int.field-0 c.in-Int.is)) c.scalar_cast.ensures

pub returns-in-Ptr : goal.returns-in-Ptr
returns-in-Ptr c = if_ok-map c.scalar_cast-in-Ptr.result (λ o. found_as o (pointer_cast c.args.context.now c.args.x.now c.args.v.now c.args.t.now c.in-Ptr.field-0 c.in-Ptr.is) (pointer_as_assigned c.args.context.now c.args.x.now c.args.v.now c.args.t.now c.in-Ptr.field-0 c.in-Ptr.is)) c.scalar_cast-in-Ptr.ensures
