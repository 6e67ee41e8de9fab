use Rattle.po_arith.proofs.Hulls.{hull_is_least}
use Rattle.po_arith.proofs.hull.join_interval.Goals as goal

pub returns-clause-least : goal.returns-clause-least
returns-clause-least c = λ a_some b_some. rw (c.lower.ensures, c.upper.ensures) (hull_is_least c.args.a.now c.args.b.now a_some b_some)
