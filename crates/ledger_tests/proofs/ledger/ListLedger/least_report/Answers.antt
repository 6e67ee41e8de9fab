use Rattle.po_ledger.proofs.Reported.{least_report}
use Rattle.ledger_tests.proofs.ledger.ListLedger.least_report.Goals as goal

pub ascending_assumptions-requires : goal.ascending_assumptions-requires
ascending_assumptions-requires g c = rw c.as_slice-2.ensures.value c.self.invariant.assumed_apart

pub returns : goal.returns
returns g c = least_report g.R.Pred.Ord.cmp _ _ _ _ c.self.invariant _ c.self.view_is c.requires c.legal_lists_are_orderly.ensures c.quiet_lists_are_least.ensures c.as_slice.result.now c.as_slice.ensures.value c.as_slice-2.result.now c.as_slice-2.ensures.value c.in_ok-lines.lines c.in_ok-lines.ensures.all c.in_ok-lines.ensures.ascend c.in_ok-assumptions.assumptions c.in_ok-assumptions.ensures.all c.in_ok-assumptions.ensures.ascend
