use Rattle.std.proofs.Common.{refl, subst}
use Rattle.std.proofs.lemmas.Bool.{both_ways}
use Rattle.po_ledger.specs.Calls.{Counts}
use Rattle.po_ledger.specs.Parts.{HandAt}
use Rattle.po_ledger.specs.View.{LedgerView}
use Rattle.po_ledger.proofs.Reported.{is_busy, is_quiet}
use Rattle.po_ledger.proofs.ledger.Ledger.report.Goals as goal

pub returns-then-is_some_left : goal.returns-then-is_some_left
returns-then-is_some_left g c = is_busy c.args.self.now c.args.self.now refl c.args.self.now.state.hands refl c.args.self.now.state.marks refl c.self.inside.held c.untaken_count-untaken.result (subst (λ (z : LedgerView _ _ _). Counts (HandAt z.state.hands) c.self.inside.held) c.self.view_is c.self.invariant.2) c.untaken_count-untaken.ensures (c.is_some_left.ensures.0 c.if-is_some_left.true)

pub least_report-requires : goal.least_report-requires
least_report-requires g c = is_quiet c.args.self.now c.args.self.now refl c.args.self.now.state.hands refl c.args.self.now.state.marks refl c.self.inside.held c.untaken_count-untaken.result (subst (λ (z : LedgerView _ _ _). Counts (HandAt z.state.hands) c.self.inside.held) c.self.view_is c.self.invariant.2) c.untaken_count-untaken.ensures (λ h. both_ways _ c.if-is_some_left.false (c.is_some_left.ensures.1 h))

pub returns : goal.returns
returns g c = (is_quiet c.args.self.now c.args.self.now refl c.args.self.now.state.hands refl c.args.self.now.state.marks refl c.self.inside.held c.untaken_count-untaken.result (subst (λ (z : LedgerView _ _ _). Counts (HandAt z.state.hands) c.self.inside.held) c.self.view_is c.self.invariant.2) c.untaken_count-untaken.ensures (λ h. both_ways _ c.if-is_some_left.false (c.is_some_left.ensures.1 h)), c.in_ok-least_report.ensures)
