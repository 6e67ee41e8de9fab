use Rattle.std.proofs.lemmas.Bool.{iff_false}
use Rattle.po_flow.proofs.Placing.{once_more}
use Rattle.po_flow.proofs.order.Order.place.Goals as goal

pub returns-clause-once : goal.returns-clause-once
returns-clause-once c = rw (c.set.ensures, c.len-end.ensures, c.in_ok-push.ensures.ok) (once_more c.args.self.now.nodes c.args.self.now.places c.args.n c.requires.there c.requires.once (iff_false c.has.ensures c.if-has.false))
