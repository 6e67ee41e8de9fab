use Rattle.po_tree.proofs.Sets.{adds_one}
use Rattle.po_tree.proofs.names.add.Goals as goal

pub returns-clause-adds : goal.returns-clause-adds
returns-clause-adds c = rw (c.in_ok-insert.ensures.ok, c.in_ok-share.ensures) (adds_one c.args.set.now c.args.name.now)
