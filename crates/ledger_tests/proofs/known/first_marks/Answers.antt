use Rattle.std.proofs.Common.{◌≡◌, ℕ, [], add-one, arith, subst}
use Rattle.po_ledger.specs.Parts.{AddsEach, primaries_below}
use Rattle.po_marks.proofs.Adds.{adds_none, adds_both}
use Rattle.ledger_tests.proofs.known.first_marks.Goals as goal

pub loop-number-init : goal.loop-number-init
loop-number-init g c = rw c.new-marks.ensures.items (adds_none [])

pub loop-number-preserved : goal.loop-number-preserved
loop-number-preserved g c = rw add-one (adds_both _ _ _ _ _ c.loop-number.invariant c.in_ok-add_primaries.ensures)

pub returns : goal.returns
returns g c =
    let all : c.loop-number.number ≡ (g.R.Rulebook.meaning c.args.book.now).functions = omega arith in
    subst (λ (n : ℕ). AddsEach (primaries_below (g.R.Rulebook.meaning c.args.book.now) n) [] c.loop-number.marks.items) all c.loop-number.invariant
