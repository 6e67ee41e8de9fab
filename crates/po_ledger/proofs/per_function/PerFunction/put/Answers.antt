use Rattle.std.proofs.Common.{◌∙◌}
use Rattle.po_ledger.proofs.Tables.{pushed}
use Rattle.po_ledger.proofs.per_function.PerFunction.put.Goals as goal

pub returns-in-Ok-clause-ok : goal.returns-in-Ok-clause-ok
returns-in-Ok-clause-ok g c = c.in-Ok.ensures.entries ∙ pushed c.self.inside.values.entries c.args.self.now c.args.f c.args.value c.self.view_is c.requires
