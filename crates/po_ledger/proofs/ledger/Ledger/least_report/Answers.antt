use Rattle.po_ledger.proofs.Reported.{least_report}
use Rattle.po_ledger.proofs.ledger.Ledger.least_report.Goals as goal

pub ascending_lines-requires : goal.ascending_lines-requires
ascending_lines-requires g c = rw c.known.ensures c.self.invariant.0.apart

pub ascending_assumptions-requires : goal.ascending_assumptions-requires
ascending_assumptions-requires g c = rw c.as_slice.ensures.keys c.self.invariant.0.assumed_apart

pub returns : goal.returns
returns g c = least_report g.R.Pred.Ord.cmp _ _ _ _ c.self.invariant.0 _ c.self.view_is c.requires c.legal_lists_are_orderly.ensures c.quiet_lists_are_least.ensures c.known.result.now.entries c.known.ensures c.as_slice.result.now c.as_slice.ensures.keys c.in_ok-lines.lines c.in_ok-lines.ensures.all c.in_ok-lines.ensures.ascend c.in_ok-assumptions.assumptions c.in_ok-assumptions.ensures.all c.in_ok-assumptions.ensures.ascend
