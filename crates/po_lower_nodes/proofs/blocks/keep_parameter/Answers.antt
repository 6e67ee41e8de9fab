use Rattle.po_lower_nodes.proofs.Groups.{keeps_parameter}
use Rattle.po_lower_nodes.proofs.blocks.keep_parameter.Goals as goal

pub returns : goal.returns
returns c = keeps_parameter _ _ _ _ _ c.args.slot c.args.r.0 c.args.access c.args.spot.now c.in_ok-at.at c.begin.ensures c.in_ok-enter_local.ensures c.in_ok-at.ensures c.in_ok-push.ensures
