use Rattle.po_ledger.proofs.WholeHand.{post_before}
use Rattle.ledger_tests.proofs.solving.post_before.Goals as goal

pub returns-in-Delegated-clause-ok : goal.returns-in-Delegated-clause-ok
returns-in-Delegated-clause-ok g c = post_before g.J.Naming.book c.post.result c.args.k c.in-Delegated.q c.args.verdict c.args.t.now _ _ c.in-Delegated.is c.post.ensures.ok c.requires.due
