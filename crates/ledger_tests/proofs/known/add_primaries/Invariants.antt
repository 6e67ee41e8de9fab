use Rattle.std.proofs.Common.{take, map}
use Rattle.po_core.specs.declared.obl.Cause.TheVariants.{Primary}
use Rattle.po_ledger.specs.Parts.{AddsEach}
use Rattle.ledger_tests.proofs.known.add_primaries.Given as goal

abbrev pub invariant-loop-place : goal.invariant-loop-place
invariant-loop-place g l = AddsEach (map (λ p. record { fun = l.f; node = p.0; cause = Primary p.1 }) (take l.place-index l.places)) l.initial.marks.items l.marks.items
