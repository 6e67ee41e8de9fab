use Rattle.std.proofs.Common.{sym, subst}
use Rattle.po_tree.specs.declared.expression.Exp.{out-Exp}
use Rattle.po_tree.specs.declared.expression.Exp.TheVariants as e
use Rattle.po_typed.specs.Expressions.{HasAddress, address_string, address_paren, address_index, address_member, address_arrow, address_deref}
use Rattle.po_operands.proofs.Layers.{has_form, of_form}
use Rattle.po_operands.proofs.Lvalues.{address_in_paren, address_of_member}
use Rattle.po_operands.proofs.addresses.has_address.Goals as goal

pub returns-in-Str : goal.returns-in-Str
returns-in-Str c = c.loop-inner.invariant.0 (has_form (HasAddress c.args.context.now) c.in-Str.is (e.rolls-Str c.in-Str.field-0) address_string)

pub returns-in-Index : goal.returns-in-Index
returns-in-Index c = c.loop-inner.invariant.0 (has_form (HasAddress c.args.context.now) c.in-Index.is (e.rolls-Index c.in-Index.field-0 c.in-Index.field-1) address_index)

pub returns-in-Arrow : goal.returns-in-Arrow
returns-in-Arrow c = c.loop-inner.invariant.0 (has_form (HasAddress c.args.context.now) c.in-Arrow.is (e.rolls-Arrow c.in-Arrow.field-0 c.in-Arrow.field-1) address_arrow)

pub returns-in-Deref : goal.returns-in-Deref
returns-in-Deref c = c.loop-inner.invariant.0 (has_form (HasAddress c.args.context.now) c.in-Deref.is (e.rolls-Deref c.in-Deref.field-0) address_deref)

pub loop-inner-preserved-in-Paren : goal.loop-inner-preserved-in-Paren
loop-inner-preserved-in-Paren c =
    let paren = e.rolls-Paren c.in-Paren.operand in
    ((λ h. c.loop-inner.invariant.0 (has_form (HasAddress c.args.context.now) c.in-Paren.is paren (address_paren (subst (λ z. HasAddress c.args.context.now (out-Exp z)) c.get-inner.ensures h)))), (λ h. subst (λ z. HasAddress c.args.context.now (out-Exp z)) (sym c.get-inner.ensures) (address_in_paren c.args.context.now (of_form (HasAddress c.args.context.now) c.in-Paren.is paren (c.loop-inner.invariant.1 h)))))

pub loop-inner-preserved : goal.loop-inner-preserved
loop-inner-preserved c =
    let dot = e.rolls-Dot c.in-Dot.operand c.in-Dot.field-1 in
    ((λ h. c.loop-inner.invariant.0 (has_form (HasAddress c.args.context.now) c.in-Dot.is dot (address_member (subst (λ z. HasAddress c.args.context.now (out-Exp z)) c.get-inner-in-Dot.ensures h)))), (λ h. subst (λ z. HasAddress c.args.context.now (out-Exp z)) (sym c.get-inner-in-Dot.ensures) (address_of_member c.args.context.now (of_form (HasAddress c.args.context.now) c.in-Dot.is dot (c.loop-inner.invariant.1 h)))))
