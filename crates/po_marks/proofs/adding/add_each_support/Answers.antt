use Rattle.std.proofs.Common.{refl}
use Rattle.po_marks.proofs.Adds.{adds_none, adds_more}
use Rattle.po_marks.proofs.Undone.{adds_untaken, in_turn_more}
use Rattle.po_marks.proofs.Waits.{supports_there}
use Rattle.po_marks.proofs.adding.add_each_support.Goals as goal

pub loop-site-init : goal.loop-site-init
loop-site-init g c = (adds_none _, (0, refl), c.requires.waiting, c.requires.apart)

pub add-requires-clause-there : goal.add-requires-clause-there
add-requires-clause-there g c = supports_there _ c.args.sites.now c.loop-site.site-index _ c.loop-site-test.true c.support_at.result c.args.q c.support_at.ensures c.requires.there

pub loop-site-preserved : goal.loop-site-preserved
loop-site-preserved g c = (
  adds_more _ c.args.sites.now c.loop-site.site-index _ _ c.loop-site.marks.items c.add.new.marks.items c.support_at.result c.loop-site-test.true c.loop-site.invariant.0 (adds_untaken _ _ _ _ c.in_ok-add.ensures.ok) c.support_at.ensures,
  in_turn_more _ _ _ _ _ c.loop-site.invariant.1 c.in_ok-add.ensures.ok,
  c.in_ok-add.ensures.waiting,
  c.in_ok-add.ensures.apart,
)
