use Rattle.po_ledger.proofs.Assuming.{any_tells, pair_tells}
use Rattle.po_ledger.proofs.assumed.is_assumed.Goals as goal

pub returns : goal.returns
returns g c = any_tells _ (c.args.f, c.args.q) (pair_tells g.R.Pred.PartialEq.eq (g.met.R.Rulebook.lawful c.args.book.now).equal_are_same (c.args.f, c.args.q)) _ c.contains.result c.contains.ensures
