use Rattle.step_tests.proofs.Supported.{on_parameter_more}
use Rattle.step_tests.proofs.reports.add_line.Goals as goal

pub returns : goal.returns
returns c = λ all. on_parameter_more _ _ _ c.in_ok-push.ensures.ok c.requires all
