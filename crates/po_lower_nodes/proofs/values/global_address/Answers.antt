use Rattle.std.proofs.Common.{refl}
use Rattle.po_ir.specs.declared.instr.Ty.TheVariants as ty
use Rattle.po_ir.specs.declared.instr.Instr.TheVariants as ins
use Rattle.po_lowering.specs.Temporaries.{reg}
use Rattle.po_lower_nodes.proofs.Groups.{adds_value}
use Rattle.po_lower_nodes.proofs.values.global_address.Goals as goal

pub returns : goal.returns
returns c = adds_value _ _ _ ty.Ptr c.in_ok-r.r.0 (λ q. ins.AddrGlobal (reg q) c.args.global) c.args.spot.now c.in_ok-r.ensures.takes c.in_ok-r.ensures.nodes c.in_ok-push.ensures (λ g. refl)
