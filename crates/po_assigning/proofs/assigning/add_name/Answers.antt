use Rattle.po_assigning.proofs.Gathered.{adds_named}
use Rattle.po_assigning.proofs.assigning.add_name.Goals as goal

pub returns-in_ok-push : goal.returns-in_ok-push
returns-in_ok-push c = adds_named c.args.x.now _ _ _ _ c.in-Some.ensures.same c.in_ok-share.ensures c.in_ok-push.ensures.ok
