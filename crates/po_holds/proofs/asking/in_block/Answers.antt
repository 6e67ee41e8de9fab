use Rattle.std.proofs.Common.{rules, ◌↔◌, FitsSigned, to_z-of_z}
use Rattle.std.specs.Prelude.{ℤ, IsTrue}
use Rattle.po_holds.specs.Choosing.{IsOneOf}
use Rattle.std.specs.Int.{w64}
use Rattle.po_memory.specs.Blocks.{Spans, IsFilled}
use Rattle.po_holds.specs.Asking.{EachScaled}
use Rattle.po_holds.proofs.asking.in_block.Goals as goal

pub returns-in-Span : goal.returns-in-Span
returns-in-Span c =
    let narrow : FitsSigned w64 c.in-Span.factor = search rules in
    let tells : IsTrue c.are_spanned.result ↔ ((o : ℤ) → IsOneOf c.args.at.now o → EachScaled c.in-Span.factor c.in-Span.lo c.in-Span.hi (λ from to. Spans from to o c.args.c.now)) = simp to_z-of_z at c.are_spanned.ensures in
    rw c.in-Span.is tells

pub returns-in-Filled : goal.returns-in-Filled
returns-in-Filled c =
    let narrow : FitsSigned w64 c.in-Filled.factor = search rules in
    let tells : IsTrue c.are_filled.result ↔ ((o : ℤ) → IsOneOf c.args.at.now o → EachScaled c.in-Filled.factor c.in-Filled.lo c.in-Filled.hi (λ from to. IsFilled from to o c.args.c.now)) = simp to_z-of_z at c.are_filled.ensures in
    rw c.in-Filled.is tells
