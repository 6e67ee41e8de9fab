use Rattle.std.proofs.Common.{refl}
use Rattle.std.proofs.lemmas.Bool.{both_ways, false≢true}
use Rattle.std.proofs.lemmas.List.{take_all}
use Rattle.po_ledger.proofs.Agreeing.{agree_more}
use Rattle.po_ledger.proofs.Lists.{read_in}
use Rattle.po_ledger.proofs.fitting.agree_on.Goals as goal

pub loop-at-preserved : goal.loop-at-preserved
loop-at-preserved g c = agree_more c.args.marks.now.entries c.args.own.now c.loop-at.at c.index-own-at.result c.loop-at-test.true c.index-own-at.is c.loop-at.invariant (c.agrees.ensures.0 c.if-not-agrees.false)

pub returns-then-not-agrees : goal.returns-then-not-agrees
returns-then-not-agrees g c = (λ h. absurd (false≢true h), λ h. absurd (both_ways _ c.if-not-agrees.true (c.agrees.ensures.1 (h _ _ (read_in c.args.own.now c.loop-at.at c.index-own-at.result c.loop-at-test.true c.index-own-at.is)))))

pub returns : goal.returns
returns g c = (λ h. rw (take_all c.loop-at.at c.args.own.now c.loop-at-test.false) at c.loop-at.invariant, λ h. refl)
