use Rattle.po_ledger.proofs.Assuming.{call_sites_put}
use Rattle.po_ledger.proofs.Tables.{table_put}
use Rattle.po_ledger.proofs.call_sites.ask_call_sites.Goals as goal

pub returns-in_err-put-clause-right : goal.returns-in_err-put-clause-right
returns-in_err-put-clause-right g c = rw c.in_err-put.ensures.err c.requires.right

pub returns-clause-right : goal.returns-clause-right
returns-clause-right g c = call_sites_put (g.R.Rulebook.meaning c.args.book.now) c.args.kept.now _ c.args.f c.in_ok-sites.sites c.requires.right c.in_ok-sites.ensures c.in_ok-put.ensures.ok

pub returns-clause-found : goal.returns-clause-found
returns-clause-found g c = table_put c.args.kept.now _ c.len-at.result c.args.f c.in_ok-sites.sites c.len-at.ensures c.in_ok-put.ensures.ok
