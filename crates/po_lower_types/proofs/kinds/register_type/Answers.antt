use Rattle.po_lower_types.proofs.Held.{register_Int}
use Rattle.std.proofs.Common.{sym}
use Rattle.po_lower_types.proofs.kinds.register_type.Goals as goal

pub returns-in-Int : goal.returns-in-Int
returns-in-Int c = sym (register_Int c.args.t.now c.in-Int.number c.in-Int.is)
