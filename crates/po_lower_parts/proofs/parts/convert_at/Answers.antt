use Rattle.po_lower_parts.proofs.Rules.{convert_converted}
use Rattle.po_lower_parts.proofs.parts.convert_at.Goals as goal

pub returns : goal.returns
returns c = λ f from is.
    convert_converted f _ _ _ c.args.spot.now from c.args.to.now c.args.v c.args.ty c.register_type.result c.args.align c.in_ok-r.r.0 is c.register_type.ensures c.in_ok-r.ensures.takes c.in_ok-r.ensures.nodes c.in_ok-push.ensures
