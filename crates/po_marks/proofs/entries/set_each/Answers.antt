use Rattle.std.proofs.Common.{subst}
use Rattle.std.proofs.lemmas.List.{take_all}
use Rattle.po_marks.specs.Known.{SetsEach}
use Rattle.po_marks.proofs.Marked.{known_still, still_apart}
use Rattle.po_marks.proofs.Sets.{next_known, sets_more, sets_none}
use Rattle.po_marks.proofs.entries.set_each.Goals as goal

pub loop-o-init : goal.loop-o-init
loop-o-init g c = sets_none _ _

pub set_mark-requires-clause-there : goal.set_mark-requires-clause-there
set_mark-requires-clause-there g c = known_still _ _ c.loop-o.invariant.keys _ (next_known c.args.os.now c.loop-o.o-index c.o-item.result _ c.loop-o-test.true c.o-item.is c.requires.there)

pub set_mark-requires-clause-apart : goal.set_mark-requires-clause-apart
set_mark-requires-clause-apart g c = still_apart _ _ c.loop-o.invariant.keys c.requires.apart

pub loop-o-preserved : goal.loop-o-preserved
loop-o-preserved g c = sets_more c.args.os.now c.loop-o.o-index c.o-item.result _ _ _ _ c.requires.once c.loop-o-test.true c.o-item.is c.loop-o.invariant c.set_mark.ensures

pub returns : goal.returns
returns g c = subst (λ z. SetsEach z c.args.mark c.args.known.now.entries c.loop-o.known.entries) (take_all c.loop-o.o-index c.args.os.now c.loop-o-test.false) c.loop-o.invariant
