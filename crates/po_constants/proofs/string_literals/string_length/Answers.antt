use Rattle.std.proofs.Common.{[], ◌++◌, ◌<◌, ◌^◌, length, refl, arith, rules, subst, ℕ, List, length-append}
use Rattle.po_typed.specs.Constants.{no_more_strings}
use Rattle.po_constants.specs.Strings.{IsStringOf}
use Rattle.po_constants.proofs.StringLiterals.{added_at, not_each}
use Rattle.po_constants.proofs.string_literals.string_length.Goals as goal

pub loop-text-init : goal.loop-text-init
loop-text-init c = ([], no_more_strings, refl, omega arith)

pub returns-in_err-count : goal.returns-in_err-count
returns-in_err-count c =
    rw c.from_residual.ensures
    (not_each c.args.texts.now c.loop-text.text-index c.text-item.result c.loop-text-test.true c.text-item.is (subst (λ t. (ws : List ℕ) → IsStringOf t ws → ⊥) c.bytes.ensures c.in_err-count.ensures))

pub loop-text-preserved : goal.loop-text-preserved
loop-text-preserved c =
    let values = c.loop-text.invariant.0 in
    let count = c.loop-text.invariant.2 in
    let most = c.loop-text.invariant.3 in
    let ws = c.in_ok-count.ensures.1 in
    let some = subst (λ t. IsStringOf t ws) c.bytes.ensures c.in_ok-count.ensures.2 in
    let fits : length c.bytes.result.now < 2 ^ 64 = search rules in (
      values ++ ws,
      added_at c.args.texts.now c.loop-text.text-index c.text-item.result values ws c.loop-text-test.true c.text-item.is c.loop-text.invariant.1 some,
      omega (arith, count, c.in_ok-count.ensures.3, length-append values ws),
      omega (arith, most, c.in_ok-count.ensures.0, fits),
    )
