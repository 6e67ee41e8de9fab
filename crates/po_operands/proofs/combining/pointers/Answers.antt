use Rattle.std.proofs.Common.{refl, sym}
use Rattle.po_types.specs.declared.ctype.CType.TheVariants as t
use Rattle.po_types.specs.Integers.{int_type}
use Rattle.po_operands.proofs.Combinations.{compared_pointers}
use Rattle.po_operands.proofs.combining.pointers.Goals as goal

pub returns-in_ok-compared-in-Comparison-2 : goal.returns-in_ok-compared-in-Comparison-2
returns-in_ok-compared-in-Comparison-2 c = compared_pointers c.args.context.now c.args.op c.args.t.now c.args.to.now c.args.u.now c.args.other.now c.requires.t c.requires.u (record { result = t.Int int_type; left = c.in_ok-compared-in-Comparison.field-0; right = c.in_ok-compared-in-Comparison-2.field-0 }) (sym c.in-Comparison.ensures) refl c.in_ok-compared-in-Comparison.ensures c.in_ok-compared-in-Comparison-2.ensures
