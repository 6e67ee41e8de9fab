use Rattle.po_type_parts.proofs.DesignatedTypes.{pointer_told, number_told}
use Rattle.po_type_parts.proofs.members.subscripts.Goals as goal

pub returns-in-Int-v : goal.returns-in-Int-v
returns-in-Int-v c = pointer_told c.args.context.now c.args.u.now c.args.v.now c.in-Ptr.to c.in-Int-v.field-0 c.in-Ptr.is c.in-Int-v.is c.get.result.now c.get.ensures c.complete.result c.complete.ensures

pub returns-in-Ptr-v : goal.returns-in-Ptr-v
returns-in-Ptr-v c = number_told c.args.context.now c.args.u.now c.args.v.now c.in-Ptr-v.to c.in-Int.field-0 c.in-Int.is c.in-Ptr-v.is c.get-in-Ptr-v.result.now c.get-in-Ptr-v.ensures c.complete-in-Ptr-v.result c.complete-in-Ptr-v.ensures
