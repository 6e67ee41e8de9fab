use Rattle.po_tree.proofs.Sets.{has_iff}
use Rattle.po_tree.proofs.names.has.Goals as goal

pub returns : goal.returns
returns c = rw c.has.ensures (has_iff c.args.set.now c.args.name.now)
