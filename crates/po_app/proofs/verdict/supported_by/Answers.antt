use Rattle.std.proofs.Common.{◌∙◌, sym, ap, subst, length}
use Rattle.std.specs.Prelude.{All}
use Rattle.po_pred.specs.View.{places_of}
use Rattle.po_pred.specs.Subst.{IsOpenTo}
use Rattle.po_app.proofs.Small.{assumable_open, operands_counted}
use Rattle.po_app.proofs.verdict.supported_by.Goals as goal

pub subst-requires-clause-places : goal.subst-requires-clause-places
subst-requires-clause-places c =
    subst (λ n. All (IsOpenTo n) (places_of c.args.assumption.now)) (c.len.ensures ∙ sym (ap length c.as_slice.ensures))
    (assumable_open _ _ (sym c.is_assumable.ensures ∙ c.if-is_assumable.true))

pub subst-requires-clause-args : goal.subst-requires-clause-args
subst-requires-clause-args c = rw c.as_slice.ensures (operands_counted c.args.args.now c.requires.small)
