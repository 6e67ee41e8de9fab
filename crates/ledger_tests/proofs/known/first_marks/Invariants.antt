use Rattle.std.proofs.Common.{[]}
use Rattle.po_ledger.specs.Parts.{AddsEach, primaries_below}
use Rattle.ledger_tests.proofs.known.first_marks.Given as goal

abbrev pub invariant-loop-number : goal.invariant-loop-number
invariant-loop-number g l = AddsEach (primaries_below (g.R.Rulebook.meaning l.book) l.number) [] l.marks.items
