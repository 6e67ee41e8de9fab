use Rattle.po_flow.proofs.One.{one_least_table}
use Rattle.po_flow.proofs.laws.least_table_is_one.Goals as goal

pub returns : goal.returns
returns g c = λ t u is also. one_least_table (g.F.Flow.meaning c.args.flow.now) (g.F.Flow.proper c.args.flow.now) (g.met.F.Flow.lawful c.args.flow.now) t u is also
