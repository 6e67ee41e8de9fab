use Rattle.std.proofs.Common.{subst}
use Rattle.po_core.specs.Core.{CoreState, IsInHand, IsKnown}
use Rattle.po_ledger.proofs.WholeHand.{held_there, hands_known}
use Rattle.po_ledger.proofs.ledger.Ledger.keeps_its_hands.Goals as goal

pub returns-clause-held_there : goal.returns-clause-held_there
returns-clause-held_there g c = held_there _ _ _ _ _ c.self.invariant.0 c.self.view_is

pub returns-clause-items_known : goal.returns-clause-items_known
returns-clause-items_known g c = hands_known _ _ _ _ _ c.self.invariant.0 c.self.view_is c.legal_lists_are_orderly.ensures
