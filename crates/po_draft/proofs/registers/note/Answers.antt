use Rattle.std.proofs.Common.{◌∙◌, ap, ◌++◌, ◌∷◌, []}
use Rattle.po_draft.proofs.Kept.{kept_noted, kept_pushed, noted_set}
use Rattle.po_draft.proofs.registers.note.Goals as goal

pub returns-in-Some : goal.returns-in-Some
returns-in-Some c =
    let at = rw (c.as_slice.ensures.value) at c.in-Some.ensures in
    λ regs taken h size. kept_noted regs taken _ _ c.in-Some.k c.args.number c.args.ty (noted_set _ _ _ c.index_mut.result.now _ _ at.1 c.index_mut.ensures.value c.in_ok-push.ensures.ok) at size h

pub returns : goal.returns
returns c =
    let missing = rw (c.as_slice.ensures.value) at c.in_default.ensures in
    λ regs taken h size. kept_pushed regs taken _ _ _ c.args.number c.args.ty missing (c.in_ok-push-2.ensures.ok ∙ ap (λ z. z ++ c.args.number ∷ []) c.new-numbers.ensures) c.in_ok-push-3.ensures.ok size h
