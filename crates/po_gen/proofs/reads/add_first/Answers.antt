use Rattle.std.specs.Prelude.{true, false}
use Rattle.std.proofs.Common.{sym, ◌∙◌}
use Rattle.po_gen.proofs.Firsts.{firsts_added, firsts_same, turned}
use Rattle.po_gen.proofs.reads.add_first.Goals as goal

pub returns-in_ok-push : goal.returns-in_ok-push
returns-in_ok-push c before given =
    rw (c.in_ok-insert.ensures.ok, c.in_ok-push.ensures.ok)
    (firsts_added before c.args.list.now c.args.seen.now c.args.register given (turned _ false (sym c.in_ok-insert.ensures.added ∙ c.if-branch.true)))

pub returns-else-branch : goal.returns-else-branch
returns-else-branch c before given =
    rw (c.in_ok-insert.ensures.ok)
    (firsts_same before c.args.list.now c.args.seen.now c.args.register given (turned _ true (sym c.in_ok-insert.ensures.added ∙ c.if-branch.false)))
