use Rattle.std.proofs.Common.{refl}
use Rattle.std.specs.Prelude.{Some}
use Rattle.po_ir.specs.declared.instr.Callee.TheVariants.{Extern}
use Rattle.po_ir.specs.declared.instr.Instr.TheVariants as ins
use Rattle.po_lowering.specs.Temporaries.{reg}
use Rattle.po_lower_nodes.proofs.Groups.{adds_value}
use Rattle.po_lower_nodes.proofs.values.call.Goals as goal

pub returns : goal.returns
returns c = adds_value _ _ _ c.args.held c.in_ok-r.r.0 (λ q. ins.Call (Some (reg q)) (Extern c.args.name) c.args.args c.args.strings) c.args.spot.now c.in_ok-r.ensures.takes c.in_ok-r.ensures.nodes c.in_ok-push.ensures (λ g. refl)
