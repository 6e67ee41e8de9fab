use Rattle.std.proofs.lemmas.Bool.{both_ways}
use Rattle.po_worker.proofs.Handed.{can_give}
use Rattle.po_worker.proofs.locked.give_or_put_back.Goals as goal

pub give-requires : goal.give-requires
give-requires g c = can_give _ _ (c.fits.ensures.0 c.if-fits.true) c.requires

pub returns-clause-gives : goal.returns-clause-gives
returns-clause-gives g c = λ fits. absurd (both_ways _ c.if-fits.false (c.fits.ensures.1 fits))
