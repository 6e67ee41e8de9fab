use Rattle.std.proofs.Common.{refl, ap, ◌∙◌}
use Rattle.po_base.specs.declared.operators.Op.TheVariants as op
use Rattle.po_types.specs.declared.ctype.CType.TheVariants as t
use Rattle.po_types.specs.Integers.{difference_type}
use Rattle.po_operands.proofs.Combinations.{subtracted, subtracts_the_same, subtracts_over_objects}
use Rattle.po_operands.proofs.combining.difference.Goals as goal

pub returns-then-not-same : goal.returns-then-not-same
returns-then-not-same c = subtracts_the_same c.args.context.now op.Sub c.args.t.now c.args.to.now c.args.u.now c.args.other.now c.requires.t c.requires.u refl (λ q. let f = c.if-not-same.ensures.1 q in absurd cc)

pub returns-then-not-is_complete : goal.returns-then-not-is_complete
returns-then-not-is_complete c = subtracts_over_objects c.args.context.now op.Sub c.args.t.now c.args.to.now c.args.u.now c.args.other.now c.requires.t c.requires.u refl c.if-not-is_complete.ensures

pub returns : goal.returns
returns c = subtracted c.args.context.now op.Sub c.args.t.now c.args.to.now c.args.u.now c.args.other.now c.requires.t c.requires.u (record { result = t.Int c.difference_type.result; left = c.in_ok-share.field-0; right = c.in_ok-share-2.field-0 }) refl (c.if-not-same.ensures.0 refl) c.if-not-is_complete.ensures (ap t.Int (c.difference_type.ensures ∙ ap difference_type c.target.ensures)) c.in_ok-share.ensures c.in_ok-share-2.ensures
