use Rattle.po_flow.proofs.Settling.{are_counted, at_rest}
use Rattle.po_flow.proofs.least.least_table_counted.Goals as goal

pub returns-clause-least : goal.returns-clause-least
returns-clause-least g c = at_rest (g.F.Flow.meaning c.args.flow.now) (g.F.Flow.proper c.args.flow.now) (g.met.F.Flow.lawful c.args.flow.now) c.in_ok-work.work.table c.settle.new.work c.settle.new.steps c.in_ok-work.ensures.first c.in_ok-settle.ensures.under_way c.in_ok-settle.ensures.none

pub returns-clause-steps : goal.returns-clause-steps
returns-clause-steps g c = are_counted (g.F.Flow.meaning c.args.flow.now) (g.F.Flow.proper c.args.flow.now) (g.met.F.Flow.lawful c.args.flow.now) c.in_ok-work.work.table c.settle.new.work c.args.steps.now c.settle.new.steps c.add.new.self c.in_ok-settle.ensures.under_way c.in_ok-settle.ensures.none c.add.ensures
