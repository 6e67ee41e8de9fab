use Rattle.std.proofs.Common.{sym, subst}
use Rattle.po_tree.specs.declared.expression.Exp.{out-Exp}
use Rattle.po_tree.specs.declared.expression.Exp.TheVariants as e
use Rattle.po_typed.specs.Expressions.{IsForm, form_number, form_character, form_size_of_expression, form_size_of_type, form_paren, form_plus, form_minus, form_complement, form_not, form_cast, form_binary, form_and, form_or, form_conditional}
use Rattle.po_choices.specs.Answering.{IsWhether, IsIntegerName}
use Rattle.po_choices.proofs.Layers.{has_form, of_form, handed_on}
use Rattle.po_choices.proofs.ConstantForms.{parts_of}
use Rattle.po_choices.proofs.Sizes.{in_paren, in_plus, in_minus, in_complement, in_not, in_cast, in_binary, in_and, in_or, in_conditional}
use Rattle.po_choices.proofs.forms.+is_form.Goals as goal

pub returns-in-Num : goal.returns-in-Num
returns-in-Num t c = c.loop-inner.invariant.0 (has_form (IsForm c.args.context.now) c.in-Num.is (e.rolls-Num c.in-Num.field-0) form_number)

pub returns-in-Chr : goal.returns-in-Chr
returns-in-Chr t c = c.loop-inner.invariant.0 (has_form (IsForm c.args.context.now) c.in-Chr.is (e.rolls-Chr c.in-Chr.field-0) form_character)

pub returns-in-SizeExp : goal.returns-in-SizeExp
returns-in-SizeExp t c = c.loop-inner.invariant.0 (has_form (IsForm c.args.context.now) c.in-SizeExp.is (e.rolls-SizeExp c.in-SizeExp.field-0) form_size_of_expression)

pub returns-in-SizeType : goal.returns-in-SizeType
returns-in-SizeType t c = c.loop-inner.invariant.0 (has_form (IsForm c.args.context.now) c.in-SizeType.is (e.rolls-SizeType c.in-SizeType.field-0) form_size_of_type)

pub loop-inner-preserved-in-Paren : goal.loop-inner-preserved-in-Paren
loop-inner-preserved-in-Paren t c =
    let k = handed_on (IsForm c.args.context.now) (IsForm c.args.context.now (out-Exp c.args.x.now)) c.in-Paren.is (e.rolls-Paren c.in-Paren.operand) c.get-inner.ensures (λ h. form_paren h) (parts_of c.args.context.now) (c.loop-inner.invariant.0, c.loop-inner.invariant.1) in
    let less = in_paren c.args.x.now c.loop-inner.inner.now c.get-inner.result.now c.loop-inner.invariant.2 c.in-Paren.operand c.in-Paren.is c.get-inner.ensures in
    (k.0, k.1, less)

pub loop-inner-preserved-in-Plus : goal.loop-inner-preserved-in-Plus
loop-inner-preserved-in-Plus t c =
    let k = handed_on (IsForm c.args.context.now) (IsForm c.args.context.now (out-Exp c.args.x.now)) c.in-Plus.is (e.rolls-Plus c.in-Plus.operand) c.get-inner-in-Plus.ensures (λ h. form_plus h) (parts_of c.args.context.now) (c.loop-inner.invariant.0, c.loop-inner.invariant.1) in
    let less = in_plus c.args.x.now c.loop-inner.inner.now c.get-inner-in-Plus.result.now c.loop-inner.invariant.2 c.in-Plus.operand c.in-Plus.is c.get-inner-in-Plus.ensures in
    (k.0, k.1, less)

pub loop-inner-preserved-in-Minus : goal.loop-inner-preserved-in-Minus
loop-inner-preserved-in-Minus t c =
    let k = handed_on (IsForm c.args.context.now) (IsForm c.args.context.now (out-Exp c.args.x.now)) c.in-Minus.is (e.rolls-Minus c.in-Minus.operand) c.get-inner-in-Minus.ensures (λ h. form_minus h) (parts_of c.args.context.now) (c.loop-inner.invariant.0, c.loop-inner.invariant.1) in
    let less = in_minus c.args.x.now c.loop-inner.inner.now c.get-inner-in-Minus.result.now c.loop-inner.invariant.2 c.in-Minus.operand c.in-Minus.is c.get-inner-in-Minus.ensures in
    (k.0, k.1, less)

pub loop-inner-preserved-in-Compl : goal.loop-inner-preserved-in-Compl
loop-inner-preserved-in-Compl t c =
    let k = handed_on (IsForm c.args.context.now) (IsForm c.args.context.now (out-Exp c.args.x.now)) c.in-Compl.is (e.rolls-Compl c.in-Compl.operand) c.get-inner-in-Compl.ensures (λ h. form_complement h) (parts_of c.args.context.now) (c.loop-inner.invariant.0, c.loop-inner.invariant.1) in
    let less = in_complement c.args.x.now c.loop-inner.inner.now c.get-inner-in-Compl.result.now c.loop-inner.invariant.2 c.in-Compl.operand c.in-Compl.is c.get-inner-in-Compl.ensures in
    (k.0, k.1, less)

pub loop-inner-preserved-in-Not : goal.loop-inner-preserved-in-Not
loop-inner-preserved-in-Not t c =
    let k = handed_on (IsForm c.args.context.now) (IsForm c.args.context.now (out-Exp c.args.x.now)) c.in-Not.is (e.rolls-Not c.in-Not.operand) c.get-inner-in-Not.ensures (λ h. form_not h) (parts_of c.args.context.now) (c.loop-inner.invariant.0, c.loop-inner.invariant.1) in
    let less = in_not c.args.x.now c.loop-inner.inner.now c.get-inner-in-Not.result.now c.loop-inner.invariant.2 c.in-Not.operand c.in-Not.is c.get-inner-in-Not.ensures in
    (k.0, k.1, less)

pub loop-inner-preserved-in-Cast : goal.loop-inner-preserved-in-Cast
loop-inner-preserved-in-Cast t c =
    let told = subst (IsWhether (IsIntegerName c.args.context.now c.get.result.now)) c.if-not-branch.false c.in_ok-is_integer_name-in-Cast.ensures in
    let said = subst (IsIntegerName c.args.context.now) c.get.ensures told in
    let k = handed_on (IsForm c.args.context.now) (IsForm c.args.context.now (out-Exp c.args.x.now)) c.in-Cast.is (e.rolls-Cast c.in-Cast.name c.in-Cast.operand) c.get-inner-in-Cast.ensures (λ h. form_cast said.0 said.1 h) (λ h. (parts_of c.args.context.now h).1) (c.loop-inner.invariant.0, c.loop-inner.invariant.1) in
    let less = in_cast c.args.x.now c.loop-inner.inner.now c.get-inner-in-Cast.result.now c.loop-inner.invariant.2 c.in-Cast.name c.in-Cast.operand c.in-Cast.is c.get-inner-in-Cast.ensures in
    (k.0, k.1, less)

pub loop-inner-preserved-in-Binary : goal.loop-inner-preserved-in-Binary
loop-inner-preserved-in-Binary t c =
    let told = subst (IsWhether (IsForm c.args.context.now (out-Exp c.get-in-Binary.result.now))) c.if-not-branch-2.false c.in_ok-is_form-in-Binary.ensures in
    let right = subst (λ v. IsForm c.args.context.now (out-Exp v)) c.get-in-Binary.ensures told in
    let k = handed_on (IsForm c.args.context.now) (IsForm c.args.context.now (out-Exp c.args.x.now)) c.in-Binary.is (e.rolls-Binary c.in-Binary.field-0 c.in-Binary.left c.in-Binary.right) c.get-inner-in-Binary.ensures (λ h. form_binary h right) (λ h. (parts_of c.args.context.now h).0) (c.loop-inner.invariant.0, c.loop-inner.invariant.1) in
    let less = in_binary c.args.x.now c.loop-inner.inner.now c.get-inner-in-Binary.result.now c.loop-inner.invariant.2 c.in-Binary.field-0 c.in-Binary.left c.in-Binary.right c.in-Binary.is c.get-inner-in-Binary.ensures in
    (k.0, k.1, less)

pub loop-inner-preserved-in-LogAnd : goal.loop-inner-preserved-in-LogAnd
loop-inner-preserved-in-LogAnd t c =
    let told = subst (IsWhether (IsForm c.args.context.now (out-Exp c.get-in-LogAnd.result.now))) c.if-not-branch-3.false c.in_ok-is_form-in-LogAnd.ensures in
    let right = subst (λ v. IsForm c.args.context.now (out-Exp v)) c.get-in-LogAnd.ensures told in
    let k = handed_on (IsForm c.args.context.now) (IsForm c.args.context.now (out-Exp c.args.x.now)) c.in-LogAnd.is (e.rolls-LogAnd c.in-LogAnd.left c.in-LogAnd.right) c.get-inner-in-LogAnd.ensures (λ h. form_and h right) (λ h. (parts_of c.args.context.now h).0) (c.loop-inner.invariant.0, c.loop-inner.invariant.1) in
    let less = in_and c.args.x.now c.loop-inner.inner.now c.get-inner-in-LogAnd.result.now c.loop-inner.invariant.2 c.in-LogAnd.left c.in-LogAnd.right c.in-LogAnd.is c.get-inner-in-LogAnd.ensures in
    (k.0, k.1, less)

pub loop-inner-preserved-in-LogOr : goal.loop-inner-preserved-in-LogOr
loop-inner-preserved-in-LogOr t c =
    let told = subst (IsWhether (IsForm c.args.context.now (out-Exp c.get-in-LogOr.result.now))) c.if-not-branch-4.false c.in_ok-is_form-in-LogOr.ensures in
    let right = subst (λ v. IsForm c.args.context.now (out-Exp v)) c.get-in-LogOr.ensures told in
    let k = handed_on (IsForm c.args.context.now) (IsForm c.args.context.now (out-Exp c.args.x.now)) c.in-LogOr.is (e.rolls-LogOr c.in-LogOr.left c.in-LogOr.right) c.get-inner-in-LogOr.ensures (λ h. form_or h right) (λ h. (parts_of c.args.context.now h).0) (c.loop-inner.invariant.0, c.loop-inner.invariant.1) in
    let less = in_or c.args.x.now c.loop-inner.inner.now c.get-inner-in-LogOr.result.now c.loop-inner.invariant.2 c.in-LogOr.left c.in-LogOr.right c.in-LogOr.is c.get-inner-in-LogOr.ensures in
    (k.0, k.1, less)

pub returns-then-not-branch-6 : goal.returns-then-not-branch-6
returns-then-not-branch-6 t c = λ g.
    let other = subst (IsWhether (IsForm c.args.context.now (out-Exp c.get-in-Cond-2.result.now))) c.if-not-branch-6.true c.in_ok-is_form-in-Cond-2.ensures in
    let parts = parts_of c.args.context.now (of_form (IsForm c.args.context.now) c.in-Cond.is (e.rolls-Cond c.in-Cond.test c.in-Cond.second c.in-Cond.third) (c.loop-inner.invariant.1 g)) in
    other (subst (λ v. IsForm c.args.context.now (out-Exp v)) (sym c.get-in-Cond-2.ensures) parts.1.1)

pub loop-inner-preserved : goal.loop-inner-preserved
loop-inner-preserved t c =
    let told = subst (IsWhether (IsForm c.args.context.now (out-Exp c.get-in-Cond.result.now))) c.if-not-branch-5.false c.in_ok-is_form-in-Cond.ensures in
    let second = subst (λ v. IsForm c.args.context.now (out-Exp v)) c.get-in-Cond.ensures told in
    let told_too = subst (IsWhether (IsForm c.args.context.now (out-Exp c.get-in-Cond-2.result.now))) c.if-not-branch-6.false c.in_ok-is_form-in-Cond-2.ensures in
    let third = subst (λ v. IsForm c.args.context.now (out-Exp v)) c.get-in-Cond-2.ensures told_too in
    let k = handed_on (IsForm c.args.context.now) (IsForm c.args.context.now (out-Exp c.args.x.now)) c.in-Cond.is (e.rolls-Cond c.in-Cond.test c.in-Cond.second c.in-Cond.third) c.get-inner-in-Cond.ensures (λ h. form_conditional h second third) (λ h. (parts_of c.args.context.now h).0) (c.loop-inner.invariant.0, c.loop-inner.invariant.1) in
    let less = in_conditional c.args.x.now c.loop-inner.inner.now c.get-inner-in-Cond.result.now c.loop-inner.invariant.2 c.in-Cond.test c.in-Cond.second c.in-Cond.third c.in-Cond.is c.get-inner-in-Cond.ensures in
    (k.0, k.1, less)
