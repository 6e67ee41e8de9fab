use Rattle.std.proofs.Common.{refl}
use Rattle.po_holds.proofs.Telling.{not_tells}
use Rattle.po_holds.proofs.Chosen.{through}
use Rattle.po_holds.proofs.Both as both
use Rattle.po_holds.proofs.pairs.differ.Goals as goal

pub returns-then-reaches_none : goal.returns-then-reaches_none
returns-then-reaches_none c =
    (λ h. both.apart_since_none c.args.p.now c.args.q.now c.args.n.now (c.reaches_none.ensures.0 c.if-reaches_none.true), λ h. refl)

pub returns-then-is_after : goal.returns-then-is_after
returns-then-is_after c =
    (λ h. both.apart_since_after c.args.p.now c.args.q.now c.args.n.now (c.is_after.ensures.0 c.if-is_after.true), λ h. refl)

pub returns : goal.returns
returns c =
    through c.is_after-2.ensures (both.apart_before c.args.p.now c.args.q.now c.args.n.now c.requires.p c.requires.q c.requires.n ((not_tells c.reaches_none.result c.reaches_none.ensures).0 (rw c.if-reaches_none.false refl)) ((not_tells c.is_after.result c.is_after.ensures).0 (rw c.if-is_after.false refl)))
