use Rattle.std.proofs.Common.{refl}
use Rattle.po_holds.proofs.Telling.{not_tells}
use Rattle.po_holds.proofs.Widths as widths
use Rattle.po_holds.proofs.Chosen.{through}
use Rattle.po_holds.proofs.over.quotients_stay.Goals as goal

pub returns-then-have_least : goal.returns-then-have_least
returns-then-have_least c =
    through (not_tells c.have_minus_one.result c.have_minus_one.ensures) (widths.quotients_stay c.args.bits c.args.v.now c.args.w.now (c.have_least.ensures.0 c.if-have_least.true))

pub returns : goal.returns
returns c =
    (λ h. widths.quotients_stay_without c.args.bits c.args.v.now c.args.w.now ((not_tells c.have_least.result c.have_least.ensures).0 (rw c.if-have_least.false refl)), λ h. refl)
