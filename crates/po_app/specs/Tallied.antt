-- How many lines of a report have which verdict.
use Rattle.std.specs.Prelude.{◌+◌, List}
use Rattle.po_core.specs.declared.obl.Verdict.{Verdict}
use Rattle.po_core.specs.declared.obl.Verdict.TheVariants.{Closed, Delegated, Open}
use Rattle.po_pred.specs.declared.pred.Pred.{Pred}
use Rattle.po_app.specs.declared.rule.Rule.{Rule}
use Rattle.po_app.specs.declared.tally.Tally.{Tally}
use Rattle.po_app.specs.ReportText.{Line, count_of, says_closed, says_delegated, says_open}

abbrev pub tally_of : List Line → Tally
tally_of lines = record { closed = count_of says_closed lines; delegated = count_of says_delegated lines; left_open = count_of says_open lines }

-- one more verdict is counted
abbrev pub counted : Tally → Verdict Pred Rule → Tally
counted t (Closed rule) = record { closed = t.closed + 1; delegated = t.delegated; left_open = t.left_open }
counted t (Delegated q) = record { closed = t.closed; delegated = t.delegated + 1; left_open = t.left_open }
counted t Open = record { closed = t.closed; delegated = t.delegated; left_open = t.left_open + 1 }
