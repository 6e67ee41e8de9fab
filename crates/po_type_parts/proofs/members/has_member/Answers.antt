use Rattle.po_type_parts.proofs.DesignatedTypes.{member_told}
use Rattle.po_type_parts.proofs.members.has_member.Goals as goal

pub returns-in-Struct : goal.returns-in-Struct
returns-in-Struct c = member_told c.args.context.now c.args.u.now c.in-Struct.n c.in-Struct.is c.args.name.now c.member.result c.member.ensures
