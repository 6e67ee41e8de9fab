use Rattle.std.proofs.Common.{ap, ◌∙◌, ◌++◌, ◌∷◌, []}
use Rattle.po_draft.proofs.Waits.{keeps_same, keeps_then, keeps_set, keeps_push, pushed_there, read_kept}
use Rattle.po_draft.proofs.waiting.keep_at.Goals as goal

pub returns-in_err-push-clause-keeps : goal.returns-in_err-push-clause-keeps
returns-in_err-push-clause-keeps c =
    let read = read_kept _ c.args.k _ c.in_ok-make_room.ensures.room c.index_mut.ensures.value in
    keeps_then c.args.i _ _ _ (keeps_same c.args.i _ _ c.make_room.ensures.same) (keeps_set c.args.i c.args.k _ _ c.in_ok-make_room.ensures.room (c.in_err-push.ensures.err ∙ read))

pub returns-clause-keeps : goal.returns-clause-keeps
returns-clause-keeps c =
    let read = read_kept _ c.args.k _ c.in_ok-make_room.ensures.room c.index_mut.ensures.value in
    keeps_then c.args.i _ _ _ (keeps_same c.args.i _ _ c.make_room.ensures.same) (keeps_push c.args.i c.args.k _ _ c.in_ok-make_room.ensures.room (c.in_ok-push.ensures.ok ∙ ap (λ xs. xs ++ c.args.i ∷ []) read))

pub returns-clause-kept : goal.returns-clause-kept
returns-clause-kept c =
    let read = read_kept _ c.args.k _ c.in_ok-make_room.ensures.room c.index_mut.ensures.value in
    pushed_there c.args.i c.args.k _ _ c.in_ok-make_room.ensures.room (c.in_ok-push.ensures.ok ∙ ap (λ xs. xs ++ c.args.i ∷ []) read)
