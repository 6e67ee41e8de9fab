use Rattle.std.proofs.Common.{subst}
use Rattle.po_operands.specs.Combining.{CombinesTo}
use Rattle.po_constants.specs.Found.{Finds}
use Rattle.po_type_parts.proofs.JoinedTypes.{none_combined, combined_so}
use Rattle.po_type_parts.proofs.joining.converted.Goals as goal

pub returns-in-None : goal.returns-in-None
returns-in-None c = none_combined c.args.context.now c.args.op c.args.t.now c.args.v.now (subst (Finds (CombinesTo c.args.context.now c.args.op c.args.t.now c.args.v.now)) c.in-None.is c.in_ok-combines.ensures)

pub returns-in-Some : goal.returns-in-Some
returns-in-Some c = combined_so c.args.context.now c.args.op c.args.t.now c.args.v.now c.in-Some.combined (subst (Finds (CombinesTo c.args.context.now c.args.op c.args.t.now c.args.v.now)) c.in-Some.is c.in_ok-combines.ensures)
