use Rattle.std.proofs.Common.{refl}
use Rattle.std.proofs.lemmas.List.{take_all}
use Rattle.po_marks.proofs.Adds.{adds_none, adds_more}
use Rattle.po_marks.proofs.Undone.{adds_holds, adds_untaken}
use Rattle.po_marks.proofs.Waits.{holds_both, holds_same}
use Rattle.po_marks.proofs.adding.add_primaries.Goals as goal

pub loop-place-init : goal.loop-place-init
loop-place-init g c = (adds_none _, c.requires.waiting, c.requires.apart, holds_same _ _ refl)

pub loop-place-preserved : goal.loop-place-preserved
loop-place-preserved g c = (
  adds_more _ c.args.places.now c.loop-place.place-index _ _ c.loop-place.marks.items c.add.new.marks.items c.primary_at.result c.loop-place-test.true c.loop-place.invariant.0 (adds_untaken _ _ _ _ c.in_ok-add.ensures.ok) c.primary_at.ensures,
  c.in_ok-add.ensures.waiting,
  c.in_ok-add.ensures.apart,
  holds_both _ _ _ c.loop-place.invariant.3 (adds_holds _ _ _ _ c.in_ok-add.ensures.ok),
)

pub returns-clause-ok : goal.returns-clause-ok
returns-clause-ok g c = rw (← c.requires.places) (rw (take_all c.loop-place.place-index c.args.places.now c.loop-place-test.false) at c.loop-place.invariant.0)
