use Rattle.po_lists.proofs.Results.{on_ok-map}
use Rattle.po_symbols.proofs.Indexed.{unit_noted}
use Rattle.po_symbols.proofs.bodies.note_unit.Goals as goal

pub returns : goal.returns
returns c = on_ok-map c.note_globals.result (unit_noted c.args.said.now c.note_functions.new.said c.note_globals.new.said _ c.args.unit.now _ _ c.as_slice.ensures c.as_slice-2.ensures c.in_ok-note_functions.ensures) c.note_globals.ensures
