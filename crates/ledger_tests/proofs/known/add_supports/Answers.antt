use Rattle.std.proofs.Common.{◌∙◌}
use Rattle.po_marks.proofs.Adds.{adds_none, adds_more}
use Rattle.ledger_tests.proofs.known.add_supports.Goals as goal

pub loop-site-init : goal.loop-site-init
loop-site-init g c = adds_none _

pub loop-site-preserved : goal.loop-site-preserved
loop-site-preserved g c = adds_more _ c.args.sites.now c.loop-site.site-index _ _ c.loop-site.marks.items c.add.new.marks.items c.support_at.result c.loop-site-test.true c.loop-site.invariant c.in_ok-add.ensures.ok c.support_at.ensures

pub returns-in_err-add-clause-err : goal.returns-in_err-add-clause-err
returns-in_err-add-clause-err g c = (c.loop-site.invariant.more, c.in_err-add.ensures.err ∙ c.loop-site.invariant.extends)
