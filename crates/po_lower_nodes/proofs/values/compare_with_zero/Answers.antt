use Rattle.std.proofs.Common.{refl}
use Rattle.std.specs.Prelude.{pos}
use Rattle.po_base.specs.declared.operators.Op.TheVariants as op
use Rattle.po_base.specs.declared.operand.Opnd.TheVariants as o
use Rattle.po_ir.specs.declared.instr.Instr.TheVariants as ins
use Rattle.po_lowering.specs.Temporaries.{reg}
use Rattle.po_lower_nodes.proofs.Groups.{adds_value}
use Rattle.po_lower_nodes.proofs.values.compare_with_zero.Goals as goal

pub returns : goal.returns
returns c = adds_value _ _ _ c.args.held c.in_ok-r.r.0 (λ q. ins.Bin (reg q) op.Eq c.args.ty c.args.a (o.Num (pos 0))) c.args.spot.now c.in_ok-r.ensures.takes c.in_ok-r.ensures.nodes c.in_ok-push.ensures (λ g. refl)
