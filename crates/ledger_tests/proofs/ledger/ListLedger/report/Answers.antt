use Rattle.std.proofs.lemmas.Bool.{both_ways}
use Rattle.po_ledger.proofs.Reported.{is_busy, is_quiet}
use Rattle.ledger_tests.proofs.ledger.ListLedger.report.Goals as goal

pub untaken_count-untaken-requires : goal.untaken_count-untaken-requires
untaken_count-untaken-requires g c = rw c.as_slice-2.ensures.value c.self.invariant.apart

pub returns-then-is_some_left : goal.returns-then-is_some_left
returns-then-is_some_left g c = is_busy _ _ c.self.view_is c.as_slice.result.now c.as_slice.ensures.value c.as_slice-2.result.now c.as_slice-2.ensures.value c.held_count-held.result c.untaken_count-untaken.result c.held_count-held.ensures c.untaken_count-untaken.ensures (c.is_some_left.ensures.0 c.if-is_some_left.true)

pub least_report-requires : goal.least_report-requires
least_report-requires g c = is_quiet _ _ c.self.view_is c.as_slice.result.now c.as_slice.ensures.value c.as_slice-2.result.now c.as_slice-2.ensures.value c.held_count-held.result c.untaken_count-untaken.result c.held_count-held.ensures c.untaken_count-untaken.ensures (λ h. both_ways _ c.if-is_some_left.false (c.is_some_left.ensures.1 h))

pub returns : goal.returns
returns g c = (is_quiet _ _ c.self.view_is c.as_slice.result.now c.as_slice.ensures.value c.as_slice-2.result.now c.as_slice-2.ensures.value c.held_count-held.result c.untaken_count-untaken.result c.held_count-held.ensures c.untaken_count-untaken.ensures (λ h. both_ways _ c.if-is_some_left.false (c.is_some_left.ensures.1 h)), c.in_ok-least_report.ensures)
