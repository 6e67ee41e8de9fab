use Rattle.std.proofs.Common.{subst}
use Rattle.po_tree.specs.declared.expression.Exp.{out-Exp}
use Rattle.po_tree.specs.declared.expression.Exp.TheVariants as e
use Rattle.po_typed.specs.Expressions.{IsNull, null_paren, null_plus}
use Rattle.po_choices.specs.Answering.{IsWhether, IsIntegerName}
use Rattle.po_choices.proofs.Layers.{handed_on}
use Rattle.po_choices.proofs.NullForms.{null_in_paren, null_in_plus, null_under_cast}
use Rattle.po_choices.proofs.nulls.is_null.Goals as goal

pub loop-inner-preserved-in-Paren : goal.loop-inner-preserved-in-Paren
loop-inner-preserved-in-Paren c = handed_on (IsNull c.args.context.now) (IsNull c.args.context.now (out-Exp c.args.x.now)) c.in-Paren.is (e.rolls-Paren c.in-Paren.operand) c.get-inner.ensures (λ h. null_paren h) (null_in_paren c.args.context.now) c.loop-inner.invariant

pub loop-inner-preserved-in-Plus : goal.loop-inner-preserved-in-Plus
loop-inner-preserved-in-Plus c = handed_on (IsNull c.args.context.now) (IsNull c.args.context.now (out-Exp c.args.x.now)) c.in-Plus.is (e.rolls-Plus c.in-Plus.operand) c.get-inner-in-Plus.ensures (λ h. null_plus h) (null_in_plus c.args.context.now) c.loop-inner.invariant

pub loop-inner-preserved : goal.loop-inner-preserved
loop-inner-preserved c =
    let said = subst (IsWhether (IsIntegerName c.args.context.now c.get.result.now)) c.if-not-branch.false c.in_ok-is_integer_name-in-Cast.ensures in
    null_under_cast c.args.context.now (IsNull c.args.context.now (out-Exp c.args.x.now)) c.loop-inner.inner.now c.in-Cast.name c.get.result.now c.in-Cast.operand c.get-inner-in-Cast.result.now c.in-Cast.is c.get.ensures c.get-inner-in-Cast.ensures said c.loop-inner.invariant
