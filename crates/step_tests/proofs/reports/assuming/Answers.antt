use Rattle.step_tests.proofs.Supported.{on_parameter_none}
use Rattle.step_tests.proofs.reports.assuming.Goals as goal

pub returns : goal.returns
returns c = c.in_ok-add_support-3.ensures (c.in_ok-add_support-2.ensures (c.in_ok-add_support.ensures (c.in_ok-add_line.ensures (on_parameter_none _ c.new-lines.ensures))))
