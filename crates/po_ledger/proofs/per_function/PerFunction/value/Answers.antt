use Rattle.po_ledger.proofs.Tables.{read_value}
use Rattle.po_ledger.proofs.per_function.PerFunction.value.Goals as goal

pub returns : goal.returns
returns g c = read_value c.self.inside.values.entries c.args.self.now c.args.at c.index.result.now c.self.view_is c.index.ensures
