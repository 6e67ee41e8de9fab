use Rattle.po_ledger.proofs.Tables.{table_right}
use Rattle.po_ledger.proofs.ticket.verdict_at.Goals as goal

pub verdict-requires : goal.verdict-requires
verdict-requires g c = table_right (g.R.Rulebook.meaning c.args.book.now) c.args.tables.now c.args.at c.value.result.now c.args.obl.now.fun c.requires.right c.requires.found c.value.ensures
