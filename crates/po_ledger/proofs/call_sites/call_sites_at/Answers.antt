use Rattle.po_ledger.proofs.Assuming.{call_sites_right}
use Rattle.po_ledger.proofs.call_sites.call_sites_at.Goals as goal

pub returns : goal.returns
returns g c = call_sites_right (g.R.Rulebook.meaning c.args.book.now) c.args.kept.now c.args.at c.value.result.now c.args.f c.requires.right c.requires.found c.value.ensures
