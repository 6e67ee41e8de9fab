use Rattle.po_ledger.proofs.Agreeing.{fits_when}
use Rattle.po_ledger.proofs.ledger.Ledger.fits.Goals as goal

pub returns-in-Some : goal.returns-in-Some
returns-in-Some g c = fits_when _ _ c.self.view_is c.args.t.now c.as_slice.result.now c.as_slice.ensures.value c.known.result.now.entries c.known.ensures c.file.result c.file.ensures c.worker.result c.worker.ensures c.hand.result.now c.hand.ensures c.in-Some.hand.now c.in-Some.ensures.some c.is_hand_of.result c.is_hand_of.ensures

pub is_hand_of-requires : goal.is_hand_of-requires
is_hand_of-requires g c = rw c.known.ensures c.self.invariant.0.apart
