use Rattle.po_lower_nodes.proofs.Groups.{adds_choice}
use Rattle.po_lower_nodes.proofs.values.one_or_zero.Goals as goal

pub returns : goal.returns
returns c =
    adds_choice _ _ _ _ _ c.args.held c.in_ok-r.r.0 c.in_ok-at.at.0 c.args.spot.now c.in_ok-at.ensures.0 c.in_ok-at.ensures.1 c.in_ok-r.ensures.takes c.in_ok-r.ensures.nodes c.in_ok-push.ensures c.in_ok-push-2.ensures c.in_ok-push-3.ensures
