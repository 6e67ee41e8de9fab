use Rattle.std.proofs.Common.{subst, sym, ◌∙◌}
use Rattle.std.proofs.lemmas.List.{take_rest}
use Rattle.po_types.proofs.FormatsRead.{IsReadUpTo, begins, goes_on, ends, fails, empty_is, nothing_is}
use Rattle.po_types.proofs.format.format_of.Goals as goal

pub loop-rest-init : goal.loop-rest-init
loop-rest-init c = rw c.new-specs.ensures (begins c.args.target c.args.format.now)

pub loop-rest-preserved : goal.loop-rest-preserved
loop-rest-preserved c =
    let read = goes_on c.loop-rest.invariant _ _ _ c.in-Some.ensures.2 c.in_ok-note-in-Some.ensures in
    subst (λ r. IsReadUpTo c.args.target c.args.format.now c.note.new.specs r) (sym (take_rest c.loop-rest.rest.now c.in-Some.piece.bytes)) read

pub returns : goal.returns
returns c = ends c.loop-rest.invariant (empty_is _ (sym c.is_empty.ensures ∙ c.loop-rest-test.false))

pub returns-in-None : goal.returns-in-None
returns-in-None c = fails c.loop-rest.invariant (nothing_is _ (sym c.is_empty.ensures ∙ c.loop-rest-test.true)) c.in-None.ensures
