use Rattle.std.proofs.Common.{◌∙◌, ◌++◌, ◌∷◌, [], ap}
use Rattle.po_lists.proofs.Results.{on_err-always}
use Rattle.po_lower_names.proofs.Index.{indexed_push, indexed_same, read_kept}
use Rattle.po_lower_names.proofs.entries.keep.Goals as goal

pub returns-in_err-push-clause-err : goal.returns-in_err-push-clause-err
returns-in_err-push-clause-err c = on_err-always c.from_residual-in_err-push.result (λ entries h.
    let kept = c.number.ensures.keeps entries h in
    let read = read_kept _ c.in_ok-k.k _ (kept.within _ _ c.in_ok-k.ensures.there) c.index_mut.ensures.value in
    indexed_same entries _ _ c.in_ok-k.k _ kept (kept.within _ _ c.in_ok-k.ensures.there) (c.in_err-push.ensures.err ∙ read))

pub returns-clause-ok : goal.returns-clause-ok
returns-clause-ok c = λ entries h.
    let kept = c.number.ensures.keeps entries h in
    let read = read_kept _ c.in_ok-k.k _ (kept.within _ _ c.in_ok-k.ensures.there) c.index_mut.ensures.value in
    indexed_push entries _ _ c.args.name.now c.args.variable c.in_ok-k.k _ kept c.in_ok-k.ensures.there (c.in_ok-push.ensures.ok ∙ ap (λ vs. vs ++ c.args.variable ∷ []) read)
