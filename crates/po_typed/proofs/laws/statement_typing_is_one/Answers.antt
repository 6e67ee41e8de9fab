use Rattle.po_typed.proofs.OneStatement.{one_run}
use Rattle.po_typed.proofs.laws.statement_typing_is_one.Goals as goal

pub returns : goal.returns
returns c = λ ctx w targets s marks others ps qs f g. let r = one_run c.format_is_one.ensures f g in (r.cases, r.pairs)
