use Rattle.std.proofs.Common.{refl, ap, sym, ◌∙◌}
use Rattle.po_lists.proofs.Results.{if_ok-map}
use Rattle.po_lower_types.specs.Changes.{told}
use Rattle.po_lower_parts.proofs.Rules.{convert_nothing}
use Rattle.po_lower_parts.proofs.parts.convert.Goals as goal

pub returns-in-Nothing : goal.returns-in-Nothing
returns-in-Nothing c = λ f m.
    convert_nothing f _ _ c.args.spot.now c.args.from.now c.args.to.now c.args.v refl (sym (c.change.ensures f m) ∙ ap told c.in-Nothing.is)

pub returns-in-Comparison : goal.returns-in-Comparison
returns-in-Comparison c =
    if_ok-map c.convert_to_bool.result (λ w h f m. h f c.args.from.now (sym (c.change.ensures f m) ∙ ap told c.in-Comparison.is)) c.convert_to_bool.ensures

pub returns-in-Conv : goal.returns-in-Conv
returns-in-Conv c =
    if_ok-map c.convert_at.result (λ w h f m. h f c.args.from.now (sym (c.change.ensures f m) ∙ ap told c.in-Conv.is)) c.convert_at.ensures
