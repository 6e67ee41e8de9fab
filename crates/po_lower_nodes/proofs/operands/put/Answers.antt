use Rattle.po_lowering.specs.Temporaries.{put}
use Rattle.po_lower_nodes.proofs.Groups.{adds_fixed, resolve-put}
use Rattle.po_lower_nodes.proofs.operands.put.Goals as goal

pub returns : goal.returns
returns c = adds_fixed _ _ c.put_of.result (put c.args.r.0 c.args.v) c.args.spot.now c.put_of.ensures c.in_ok-push.ensures (λ g. resolve-put g c.args.r.0 c.args.v)
