use Rattle.std.specs.Prelude.{pos}
use Rattle.std.specs.Prelude.{◌≢◌}
use Rattle.po_holds.proofs.Chosen as chosen
use Rattle.po_holds.proofs.Chosen.{through}
use Rattle.po_holds.proofs.over.nonzero.Goals as goal

pub returns-in-Ok : goal.returns-in-Ok
returns-in-Ok c =
    through c.miss_zero.ensures (chosen.each_number c.args.f.now c.args.x.now (λ z. z ≢ pos 0) c.in-Ok.r c.in-Ok.ensures)
