use Rattle.po_lists.proofs.Results.{if_ok-map}
use Rattle.po_worker.proofs.working.settle.Goals as goal

pub returns : goal.returns
returns g c = if_ok-map c.settle_or_put_back-fits.result (λ fits h is. (h is).settled) c.settle_or_put_back-fits.ensures.settled
