use Rattle.std.proofs.Common.{refl}
use Rattle.po_lists.proofs.Results.{on_ok-map}
use Rattle.po_link.specs.Noted.{effects_of_lib}
use Rattle.po_link.proofs.Noted.{found_more}
use Rattle.po_link.proofs.seen.note_lib.Goals as goal

pub returns : goal.returns
returns c = λ before h.
    on_ok-map c.note.result (λ noted. record { each = found_more effects_of_lib before c.args.used.now c.args.used.now.effects c.args.noted.now c.note.new.map refl noted h.each }) c.note.ensures
