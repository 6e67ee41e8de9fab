use Rattle.po_core.proofs.Count.{settles_bounded}
use Rattle.po_core.proofs.laws.settles_are_bounded.Goals as goal

pub returns : goal.returns
returns g c = λ es s r. settles_bounded _ _ (g.met.R.Rulebook.lawful c.args.book.now) es s r
