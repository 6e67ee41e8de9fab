use Rattle.po_symbols.proofs.Indexed.{bodies_more}
use Rattle.po_symbols.proofs.bodies.all_bodies.Goals as goal

pub loop-place-preserved : goal.loop-place-preserved
loop-place-preserved c = bodies_more _ _ _ _ c.loop-place.said c.note_unit.new.said c.loop-place-test.true c.index-units-place.is c.in_ok-counted.ensures c.loop-place.invariant c.in_ok-note_unit.ensures
