use Rattle.po_type_parts.proofs.DesignatedTypes.{arrow_member_told}
use Rattle.po_type_parts.proofs.members.has_arrow_member.Goals as goal

pub returns-in-Ptr : goal.returns-in-Ptr
returns-in-Ptr c = arrow_member_told c.args.context.now c.args.u.now c.in-Ptr.to c.in-Ptr.is c.args.name.now c.get.result.now c.get.ensures c.has_member.result c.has_member.ensures
