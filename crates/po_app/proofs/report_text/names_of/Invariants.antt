use Rattle.std.proofs.Common.{◌≡◌, map, take}
use Rattle.po_app.specs.ReportText.{names_in}
use Rattle.po_app.proofs.report_text.names_of.Given as goal

abbrev pub invariant-loop-function : goal.invariant-loop-function
invariant-loop-function l = l.names ≡ map names_in (take l.function-index l.functions)
