use Rattle.po_ledger.proofs.Assuming.{new_key, pair_tells}
use Rattle.po_ledger.proofs.assumed.insert_new.Goals as goal

pub returns : goal.returns
returns g c = new_key _ (c.args.f, c.args.q) (pair_tells g.R.Pred.PartialEq.eq (g.met.R.Rulebook.lawful c.args.book.now).equal_are_same (c.args.f, c.args.q)) _ _ c.in-Ok.ensures.keys c.requires.new
