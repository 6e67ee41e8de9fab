use Rattle.po_lower_nodes.proofs.Groups.{adds_unsaved}
use Rattle.po_lower_nodes.proofs.operands.save.Goals as goal

pub returns : goal.returns
returns c = adds_unsaved _ c.args.spot.now c.args.ty c.args.used c.args.q c.if-used.false
