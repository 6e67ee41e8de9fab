use Rattle.po_draft.proofs.Least.{new_free, takes_new}
use Rattle.po_draft.proofs.registers.take_new.Goals as goal

pub unreachable-requires : goal.unreachable-requires
unreachable-requires c =
    let none = rw (c.as_slice.ensures.value) at c.in-None.ensures in
    new_free _ _ _ _ _ c.args.ty c.requires.kept c.in_ok-add_temporary.ensures.regs (c.in_ok-add_temporary.ensures.kept _ c.requires.kept) none

pub returns-clause-takes : goal.returns-clause-takes
returns-clause-takes c =
    let at = rw (c.as_slice.ensures.value) at c.in-Some.ensures in
    takes_new _ _ _ _ _ _ _ c.in-Some.k _ c.args.ty c.requires.none c.requires.kept c.in_ok-add_temporary.ensures.regs (c.in_ok-add_temporary.ensures.kept _ c.requires.kept) c.in_ok-use_at-in-Some.ensures.used (at.0, at.1, at.2)
