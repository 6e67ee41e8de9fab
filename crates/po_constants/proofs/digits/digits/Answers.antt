use Rattle.std.proofs.Common.{refl}
use Rattle.po_constants.proofs.DigitRows.{begins, goes_on}
use Rattle.po_constants.proofs.digits.digits.Goals as goal

pub loop-end-init : goal.loop-end-init
loop-end-init c = begins c.args.text.now c.args.base c.args.at _ c.requires.place refl

pub loop-end-preserved : goal.loop-end-preserved
loop-end-preserved c =
    let small = rw c.digit.ensures at c.if-digit-base.true in
    let step = rw c.digit-in-loop-end.ensures at c.with_digit-value.ensures in
    goes_on c.args.text.now c.args.base c.args.at c.loop-end.end c.loop-end.value c.loop-end.invariant c.with_digit-value.result c.loop-end-test.true small step
