use Rattle.po_symbols.proofs.Indexed.{types_more}
use Rattle.po_symbols.proofs.types.all_types.Goals as goal

pub loop-place-preserved : goal.loop-place-preserved
loop-place-preserved c = types_more _ _ _ _ _ c.loop-place.said c.note_types.new.said c.as_slice.ensures c.loop-place-test.true c.index-units-place.is c.in_ok-counted.ensures c.loop-place.invariant c.in_ok-note_types.ensures
