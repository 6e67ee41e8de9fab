use Rattle.std.proofs.Common.{◌≡◌, ◌<◌, ◌^◌, ◌∙◌, arith, sym, length, take, take_all}
use Rattle.po_straight.proofs.Numerals.{not_empty, not_nothing, not_long, not_digit, first, next, below, bounded, not_longer, not_large}
use Rattle.po_straight.proofs.word.constant.Goals as goal

pub returns-then-is_empty-clause-none : goal.returns-then-is_empty-clause-none
returns-then-is_empty-clause-none c = λ n small e. not_empty _ n c.if-is_empty.ensures small e

pub returns-then-word-gt10-clause-none : goal.returns-then-word-gt10-clause-none
returns-then-word-gt10-clause-none c = λ n small e. not_long _ n c.if-word-gt10.true small e

pub returns-in_err-value-clause-none : goal.returns-in_err-value-clause-none
returns-in_err-value-clause-none c =
    rw c.from_residual.ensures (λ n small e. not_digit _ 0 n (not_nothing _ c.if-is_empty.ensures) c.in_err-value.ensures small e)

pub loop-at-init : goal.loop-at-init
loop-at-init c =
    (first _ _ (not_nothing _ c.if-is_empty.ensures) c.in_ok-value.ensures.0 c.in_ok-value.ensures.1, omega (arith, c.in_ok-value.ensures.0))

pub returns-then-value-eq0-clause-none : goal.returns-then-value-eq0-clause-none
returns-then-value-eq0-clause-none c = λ n small e.
    not_longer _ c.loop-at.at n (omega arith) c.loop-at-test.true (rw c.if-value-eq0.true at c.loop-at.invariant.0) small e

pub returns-in_err-value-2-clause-none : goal.returns-in_err-value-2-clause-none
returns-in_err-value-2-clause-none c =
    rw c.from_residual-in_err-value-2.ensures (λ n small e. not_digit _ c.loop-at.at n c.loop-at-test.true c.in_err-value-2.ensures small e)

pub loop-at-preserved : goal.loop-at-preserved
loop-at-preserved c =
    let digit : c.in_ok-value-2.field-0 < 10 = c.in_ok-value-2.ensures.0 in (
      next _ _ _ _ c.loop-at-test.true (omega arith) (bounded c.loop-at.at _ (omega arith) c.loop-at.invariant.1) digit c.in_ok-value-2.ensures.1 c.loop-at.invariant.0,
      below c.loop-at.at _ _ c.loop-at.invariant.1 digit,
    )

pub overflow_mul-value : goal.overflow_mul-value
overflow_mul-value c =
    let small : c.loop-at.value < 2 ^ 40 = bounded c.loop-at.at _ (omega arith) c.loop-at.invariant.1 in omega arith

pub returns-else-value-clause-none : goal.returns-else-value-clause-none
returns-else-value-clause-none c = λ n small e.
    let some : 0 < length c.args.word.now = not_nothing _ c.if-is_empty.ensures in
    let whole : c.args.word.now ≡ take c.loop-at.at c.args.word.now = sym (take_all _ _ c.loop-at-test.false) in
    not_large _ c.loop-at.value n (omega arith) (bounded c.loop-at.at _ (omega arith) c.loop-at.invariant.1) (whole ∙ c.loop-at.invariant.0) small e
