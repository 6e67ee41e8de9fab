use Rattle.std.proofs.Common.{◌≡◌, ◌++◌, take}
use Rattle.std.specs.List.{flat_map}
use Rattle.po_app.specs.ReportText.{assumption_text}
use Rattle.po_app.proofs.report_text.add_assumptions.Given as goal

abbrev pub invariant-loop-assumption : goal.invariant-loop-assumption
invariant-loop-assumption l = l.out ≡ l.initial.out ++ flat_map (assumption_text l.project) (take l.assumption-index l.assumptions)
