use Rattle.po_core.proofs.Quiet.{least}
use Rattle.po_core.proofs.laws.quiet_lists_are_least.Goals as goal

pub returns : goal.returns
returns g c = λ es s r quiet. least _ _ (g.met.R.Rulebook.lawful c.args.book.now) es s r quiet
