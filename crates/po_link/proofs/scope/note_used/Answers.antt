use Rattle.std.proofs.Common.{◌∙◌}
use Rattle.po_lists.proofs.Results.{on_ok-map}
use Rattle.po_link.specs.Scoped.{seen_by}
use Rattle.po_link.proofs.Noted.{found_more}
use Rattle.po_link.proofs.scope.note_used.Goals as goal

pub returns : goal.returns
returns c = λ before h.
    on_ok-map c.note.result (λ noted. record { each = found_more (seen_by c.args.seen.now) before c.args.used.now c.copied.result c.args.libs.now c.note.new.map (c.copied.ensures ∙ c.get.ensures.value) noted h.each }) c.note.ensures
