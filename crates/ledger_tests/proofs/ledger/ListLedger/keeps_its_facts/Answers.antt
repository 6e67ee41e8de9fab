use Rattle.std.proofs.Common.{subst}
use Rattle.po_ledger.specs.View.{LedgerView, IsLedger}
use Rattle.ledger_tests.proofs.ledger.ListLedger.keeps_its_facts.Goals as goal

pub returns : goal.returns
returns g c = subst (λ (z : LedgerView _ _ _). IsLedger g.J.Naming.book z) c.self.view_is c.self.invariant.ledger
