use Rattle.ledger_tests.proofs.Plain.{reported}
use Rattle.ledger_tests.proofs.solving.solve_lists.Goals as goal

pub returns : goal.returns
returns g c = reported _ _ _ _ c.report.ensures
