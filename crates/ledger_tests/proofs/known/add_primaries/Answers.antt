use Rattle.std.proofs.lemmas.List.{take_all}
use Rattle.po_marks.proofs.Adds.{adds_none, adds_more}
use Rattle.ledger_tests.proofs.known.add_primaries.Goals as goal

pub loop-place-init : goal.loop-place-init
loop-place-init g c = adds_none _

pub loop-place-preserved : goal.loop-place-preserved
loop-place-preserved g c = adds_more _ c.args.places.now c.loop-place.place-index _ _ c.loop-place.marks.items c.add.new.marks.items c.primary_at.result c.loop-place-test.true c.loop-place.invariant c.in_ok-add.ensures.ok c.primary_at.ensures

pub returns : goal.returns
returns g c = rw (← c.requires) (rw (take_all c.loop-place.place-index c.args.places.now c.loop-place-test.false) at c.loop-place.invariant)
