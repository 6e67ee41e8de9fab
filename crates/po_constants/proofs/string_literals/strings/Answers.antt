use Rattle.std.proofs.Common.{[], sym, subst, ℕ, List}
use Rattle.po_typed.specs.Constants.{AreStrings, no_more_strings}
use Rattle.po_constants.specs.Strings.{IsStringOf}
use Rattle.po_constants.proofs.StringLiterals.{added_at, not_each}
use Rattle.po_constants.proofs.string_literals.strings.Goals as goal

pub loop-text-init : goal.loop-text-init
loop-text-init c = subst (λ bs. AreStrings [] bs) (sym c.new-bytes.ensures) no_more_strings

pub returns-then-not-branch : goal.returns-then-not-branch
returns-then-not-branch c =
    let none = rw c.if-not-branch.true at c.in_ok-add_string.ensures in
    not_each c.args.texts.now c.loop-text.text-index c.text-item.result c.loop-text-test.true c.text-item.is (subst (λ t. (ws : List ℕ) → IsStringOf t ws → ⊥) c.bytes.ensures none)

pub loop-text-preserved : goal.loop-text-preserved
loop-text-preserved c =
    let some = rw c.if-not-branch.false at c.in_ok-add_string.ensures in
    let more = added_at c.args.texts.now c.loop-text.text-index c.text-item.result c.loop-text.bytes some.0 c.loop-text-test.true c.text-item.is c.loop-text.invariant (subst (λ t. IsStringOf t some.0) c.bytes.ensures some.1) in
    subst (AreStrings _) (sym some.2) more
