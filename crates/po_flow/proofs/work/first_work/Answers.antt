use Rattle.std.proofs.Common.{ap, ◌∙◌, replicate, true}
use Rattle.po_flow.proofs.Settling.{begins_at}
use Rattle.po_flow.proofs.work.first_work.Goals as goal

pub returns-clause-under_way : goal.returns-clause-under_way
returns-clause-under_way g c =
    begins_at (g.F.Flow.meaning c.args.flow.now) (g.F.Flow.proper c.args.flow.now) (g.met.F.Flow.lawful c.args.flow.now)
    (record { table = c.in_ok-table.table; rises = c.in_ok-rises.rises; list = c.in_ok-list.list })
    c.in_ok-table.ensures
    (c.in_ok-rises.ensures ∙ ap (λ n. replicate n 0) (c.len.ensures ∙ c.requires.long))
    (c.in_ok-list.ensures ∙ ap (λ n. replicate n true) c.requires.long)
