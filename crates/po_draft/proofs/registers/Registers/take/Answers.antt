use Rattle.po_draft.proofs.Least.{takes_old}
use Rattle.po_draft.proofs.registers.Registers.take.Goals as goal

pub returns-in-Some : goal.returns-in-Some
returns-in-Some c =
    let at = rw (c.as_slice.ensures.value) at c.in-Some.ensures in
    rw (← c.self.view_is) (takes_old _ _ _ _ _ c.in-Some.k _ c.args.ty c.in_ok-use_at.ensures.used (at.0, at.1, at.2) c.self.invariant)

pub take_new-requires-clause-none : goal.take_new-requires-clause-none
take_new-requires-clause-none c = rw (c.as_slice.ensures.value) at c.in_default.ensures
