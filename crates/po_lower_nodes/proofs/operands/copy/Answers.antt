use Rattle.po_lower_nodes.proofs.Groups.{adds_copy}
use Rattle.po_lower_nodes.proofs.operands.copy.Goals as goal

pub returns : goal.returns
returns c = adds_copy _ _ _ c.args.spot.now c.args.q c.args.ty c.in_ok-r.r.0 c.requires c.in_ok-r.ensures.takes c.in_ok-r.ensures.nodes c.in_ok-push.ensures
