use Rattle.std.proofs.Common.{subst}
use Rattle.std.proofs.lemmas.Bool.Decides.{Decides-ltb}
use Rattle.po_ledger.specs.Calls.{Counts}
use Rattle.po_ledger.specs.Parts.{HandAt}
use Rattle.po_ledger.specs.View.{LedgerView}
use Rattle.po_ledger.proofs.Counted.{counts_some, some_counts}
use Rattle.po_ledger.proofs.ledger.Ledger.some_held.Goals as goal

pub returns : goal.returns
returns g c =
    let held = subst (λ (z : LedgerView _ _ _). Counts (HandAt z.state.hands) c.self.inside.held) c.self.view_is c.self.invariant.2 in
    let tells = Decides-ltb 0 c.self.inside.held in
    (λ h. counts_some (HandAt c.args.self.now.state.hands) c.self.inside.held held (tells.0 h), λ h. tells.1 (some_counts (HandAt c.args.self.now.state.hands) c.self.inside.held held h))
