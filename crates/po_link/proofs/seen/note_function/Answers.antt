use Rattle.po_lists.proofs.Results.{on_ok-map}
use Rattle.po_link.proofs.Noted.{seen_more}
use Rattle.po_link.proofs.seen.note_function.Goals as goal

pub returns : goal.returns
returns c = λ before h.
    on_ok-map c.note.result (λ noted. seen_more before c.args.function.now c.args.seen.now c.note.new.map _ _ c.if-function.false c.in_ok-share.ensures c.in_ok-seen.ensures noted h) c.note.ensures
