use Rattle.ledger_tests.proofs.Plain.{held_also}
use Rattle.ledger_tests.proofs.ledger.ListLedger.some_held.Goals as goal

pub returns : goal.returns
returns g c = let also = held_also _ _ c.self.view_is c.as_slice.result.now c.as_slice.ensures.value in (λ h. also.0 (c.any_held.ensures.0 h), λ h. c.any_held.ensures.1 (also.1 h))
