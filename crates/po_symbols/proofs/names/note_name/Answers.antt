use Rattle.po_lists.proofs.Results.{on_ok-map}
use Rattle.po_symbols.proofs.Named.{noted_name}
use Rattle.po_symbols.proofs.names.note_name.Goals as goal

pub returns : goal.returns
returns g c = on_ok-map c.note.result (λ noted. noted_name c.args.map.now c.note.new.map _ _ _ c.in_ok-share.ensures noted) c.note.ensures
