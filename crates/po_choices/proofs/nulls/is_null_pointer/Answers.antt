use Rattle.std.proofs.Common.{subst}
use Rattle.po_tree.specs.declared.expression.Exp.{out-Exp}
use Rattle.po_tree.specs.declared.expression.Exp.TheVariants as e
use Rattle.po_types.specs.declared.ctype.CType.TheVariants as t
use Rattle.po_lists.proofs.Results.{if_ok-map}
use Rattle.po_typed.specs.Expressions.{IsPlainName, IsNullPointer, null_pointer_paren}
use Rattle.po_choices.specs.Answering.{IsWhether}
use Rattle.po_choices.proofs.Layers.{handed_on}
use Rattle.po_choices.proofs.NullForms.{null_pointer_in_paren, null_pointer_is_cast, null_pointer_is_to_void}
use Rattle.po_choices.proofs.nulls.is_null_pointer.Goals as goal

pub loop-inner-preserved : goal.loop-inner-preserved
loop-inner-preserved c = handed_on (IsNullPointer c.args.context.now) (IsNullPointer c.args.context.now (out-Exp c.args.x.now)) c.in-Paren.is (e.rolls-Paren c.in-Paren.operand) c.get-inner.ensures (λ h. null_pointer_paren h) (null_pointer_in_paren c.args.context.now) c.loop-inner.invariant

pub returns-then-not-branch : goal.returns-then-not-branch
returns-then-not-branch c =
    let other = subst (IsWhether (IsPlainName c.args.context.now c.get.result.now (t.Ptr t.Void))) c.if-not-branch.true c.in_ok-is_void_pointer_name-in-Cast.ensures in
    null_pointer_is_to_void c.args.context.now (IsNullPointer c.args.context.now (out-Exp c.args.x.now)) c.loop-inner.inner.now c.in-Cast.name c.get.result.now c.in-Cast.operand c.in-Cast.is c.get.ensures other c.loop-inner.invariant.1

pub returns-in-Cast : goal.returns-in-Cast
returns-in-Cast c =
    let said = subst (IsWhether (IsPlainName c.args.context.now c.get.result.now (t.Ptr t.Void))) c.if-not-branch.false c.in_ok-is_void_pointer_name-in-Cast.ensures in
    if_ok-map c.is_null.result (null_pointer_is_cast c.args.context.now (IsNullPointer c.args.context.now (out-Exp c.args.x.now)) c.loop-inner.inner.now c.in-Cast.name c.get.result.now c.in-Cast.operand c.get-in-Cast.result.now c.in-Cast.is c.get.ensures c.get-in-Cast.ensures said c.loop-inner.invariant) c.is_null.ensures
