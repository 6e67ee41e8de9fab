use Rattle.po_app.specs.Outcome.{reported}
use Rattle.po_app.proofs.Outcomes.{decides_not_served}
use Rattle.po_app.proofs.top.judge.Goals as goal

pub returns-in_ok-report_on-in-Some : goal.returns-in_ok-report_on-in-Some
returns-in_ok-report_on-in-Some c =
    reported c.in-Some.definitions _ _ c.requires (rw c.in-Some.is at c.in_ok-definitions.ensures.found) c.in_ok-report_on-in-Some.ensures

pub returns-in_ok-line_of-in-None : goal.returns-in_ok-line_of-in-None
returns-in_ok-line_of-in-None c =
    decides_not_served _ _ _ c.requires (rw c.in-None.is at c.in_ok-definitions.ensures.none) c.in_ok-line_of-in-None.ensures
