use Rattle.std.proofs.Common.{sym, ap, ◌∙◌}
use Rattle.po_ir.specs.declared.instr.Ty.TheVariants.{Int}
use Rattle.po_lower_types.proofs.Held.{tested_Int}
use Rattle.po_lower_types.proofs.kinds.tested.Goals as goal

pub returns-in-Int : goal.returns-in-Int
returns-in-Int c = ap Int c.promoted.ensures ∙ sym (tested_Int c.args.t.now c.in-Int.number c.in-Int.is)
