use Rattle.std.proofs.Common.{sym, subst}
use Rattle.po_tree.specs.declared.expression.Exp.{out-Exp}
use Rattle.po_tree.specs.declared.expression.Exp.TheVariants as e
use Rattle.po_typed.specs.Expressions.{IsLvalue, lvalue_object, lvalue_string, lvalue_paren, lvalue_index, lvalue_member, lvalue_arrow, lvalue_deref}
use Rattle.po_operands.proofs.Layers.{has_form, of_form}
use Rattle.po_operands.proofs.Told.{is_some_told}
use Rattle.po_operands.proofs.Lvalues.{object_of_name, lvalue_in_paren, lvalue_of_member}
use Rattle.po_operands.proofs.addresses.is_lvalue.Goals as goal

pub returns-in-Str : goal.returns-in-Str
returns-in-Str c = c.loop-inner.invariant.0 (has_form (IsLvalue c.args.context.now) c.in-Str.is (e.rolls-Str c.in-Str.field-0) lvalue_string)

pub returns-in-Index : goal.returns-in-Index
returns-in-Index c = c.loop-inner.invariant.0 (has_form (IsLvalue c.args.context.now) c.in-Index.is (e.rolls-Index c.in-Index.field-0 c.in-Index.field-1) lvalue_index)

pub returns-in-Arrow : goal.returns-in-Arrow
returns-in-Arrow c = c.loop-inner.invariant.0 (has_form (IsLvalue c.args.context.now) c.in-Arrow.is (e.rolls-Arrow c.in-Arrow.field-0 c.in-Arrow.field-1) lvalue_arrow)

pub returns-in-Deref : goal.returns-in-Deref
returns-in-Deref c = c.loop-inner.invariant.0 (has_form (IsLvalue c.args.context.now) c.in-Deref.is (e.rolls-Deref c.in-Deref.field-0) lvalue_deref)

pub loop-inner-preserved-in-Paren : goal.loop-inner-preserved-in-Paren
loop-inner-preserved-in-Paren c =
    let paren = e.rolls-Paren c.in-Paren.operand in
    ((λ h. c.loop-inner.invariant.0 (has_form (IsLvalue c.args.context.now) c.in-Paren.is paren (lvalue_paren (subst (λ z. IsLvalue c.args.context.now (out-Exp z)) c.get-inner.ensures h)))), (λ h. subst (λ z. IsLvalue c.args.context.now (out-Exp z)) (sym c.get-inner.ensures) (lvalue_in_paren c.args.context.now (of_form (IsLvalue c.args.context.now) c.in-Paren.is paren (c.loop-inner.invariant.1 h)))))

pub loop-inner-preserved : goal.loop-inner-preserved
loop-inner-preserved c =
    let dot = e.rolls-Dot c.in-Dot.operand c.in-Dot.field-1 in
    ((λ h. c.loop-inner.invariant.0 (has_form (IsLvalue c.args.context.now) c.in-Dot.is dot (lvalue_member (subst (λ z. IsLvalue c.args.context.now (out-Exp z)) c.get-inner-in-Dot.ensures h)))), (λ h. subst (λ z. IsLvalue c.args.context.now (out-Exp z)) (sym c.get-inner-in-Dot.ensures) (lvalue_of_member c.args.context.now (of_form (IsLvalue c.args.context.now) c.in-Dot.is dot (c.loop-inner.invariant.1 h)))))

pub returns-in-Var : goal.returns-in-Var
returns-in-Var c =
    let name = e.rolls-Var c.in-Var.name in
    rw c.is_some.ensures (is_some_told c.is_object.result c.is_object.ensures
    (λ t h. c.loop-inner.invariant.0 (has_form (IsLvalue c.args.context.now) c.in-Var.is name (lvalue_object h)))
    (λ n h. let k = object_of_name c.args.context.now (of_form (IsLvalue c.args.context.now) c.in-Var.is name (c.loop-inner.invariant.1 h)) in n k.0 k.1))
