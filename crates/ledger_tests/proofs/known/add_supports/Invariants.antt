use Rattle.std.proofs.Common.{take}
use Rattle.po_ledger.specs.Parts.{AddsEach, supports_of}
use Rattle.ledger_tests.proofs.known.add_supports.Given as goal

abbrev pub invariant-loop-site : goal.invariant-loop-site
invariant-loop-site g l = AddsEach (supports_of l.q (take l.site-index l.sites)) l.initial.marks.items l.marks.items
