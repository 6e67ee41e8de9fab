use Rattle.po_lower_nodes.proofs.Groups.{adds_saved}
use Rattle.po_lower_nodes.proofs.operands.copy_saved.Goals as goal

pub returns : goal.returns
returns c = adds_saved _ _ _ c.args.spot.now c.args.ty c.args.q c.in_ok-r.r.0 c.in_ok-r.ensures.takes c.in_ok-r.ensures.nodes c.in_ok-push.ensures
