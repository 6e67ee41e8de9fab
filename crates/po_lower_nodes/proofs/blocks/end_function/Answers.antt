use Rattle.po_lowering.specs.Functions.{last_instr}
use Rattle.po_lower_nodes.proofs.Groups.{adds_fixed, resolve-last}
use Rattle.po_lower_nodes.proofs.blocks.end_function.Goals as goal

pub returns : goal.returns
returns c = adds_fixed _ _ c.last.result (last_instr c.args.is_void c.args.is_main) c.args.spot.now c.last.ensures c.in_ok-push.ensures (λ g. resolve-last g c.args.is_void c.args.is_main)
