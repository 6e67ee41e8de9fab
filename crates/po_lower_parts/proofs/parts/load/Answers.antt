use Rattle.po_lower_parts.proofs.Rules.{read_loaded}
use Rattle.po_lower_parts.proofs.parts.load.Goals as goal

pub returns : goal.returns
returns c = λ f m.
    read_loaded f _ _ _ c.args.spot.now c.args.t.now c.args.v c.access_of.result c.register_type.result c.in_ok-r.r.0 c.requires (c.access_of.ensures f m)
    c.register_type.ensures c.in_ok-r.ensures.takes c.in_ok-r.ensures.nodes c.in_ok-push.ensures
