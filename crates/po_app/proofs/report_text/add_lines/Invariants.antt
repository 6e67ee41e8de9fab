use Rattle.std.proofs.Common.{◌≡◌, ◌++◌}
use Rattle.po_app.specs.Numbering.{IsIndexBefore, lines_before}
use Rattle.po_app.proofs.report_text.add_lines.Given as goal

abbrev pub invariant-loop-at : goal.invariant-loop-at
invariant-loop-at l = record {
  written : l.out ≡ l.initial.out ++ lines_before l.project l.lines l.at;
  counted : IsIndexBefore l.lines l.at l.index;
}
