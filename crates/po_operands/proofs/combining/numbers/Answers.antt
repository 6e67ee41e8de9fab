use Rattle.std.proofs.Common.{refl, sym, ap}
use Rattle.po_types.specs.declared.ctype.CType.TheVariants as t
use Rattle.po_types.specs.Integers.{int_type}
use Rattle.po_operands.proofs.Combinations.{computed, shifted, compared_numbers}
use Rattle.po_operands.proofs.combining.numbers.Goals as goal

pub returns-in-Arithmetic : goal.returns-in-Arithmetic
returns-in-Arithmetic c = λ scope. computed scope c.args.op c.args.s c.args.t (record { result = t.Int c.common.result; left = t.Int c.common-in-Arithmetic.result; right = t.Int c.common-in-Arithmetic-2.result }) (sym c.in-Arithmetic.ensures) (ap t.Int c.common.ensures) (ap t.Int c.common-in-Arithmetic.ensures) (ap t.Int c.common-in-Arithmetic-2.ensures)

pub returns-in-Shift : goal.returns-in-Shift
returns-in-Shift c = λ scope. shifted scope c.args.op c.args.s c.args.t (record { result = t.Int c.promoted.result; left = t.Int c.promoted-in-Shift.result; right = t.Int c.promoted-in-Shift-2.result }) (sym c.in-Shift.ensures) (ap t.Int c.promoted.ensures) (ap t.Int c.promoted-in-Shift.ensures) (ap t.Int c.promoted-in-Shift-2.ensures)

pub returns-in-Comparison : goal.returns-in-Comparison
returns-in-Comparison c = λ scope. compared_numbers scope c.args.op c.args.s c.args.t (record { result = t.Int int_type; left = t.Int c.common-in-Comparison.result; right = t.Int c.common-in-Comparison-2.result }) (sym c.in-Comparison.ensures) refl (ap t.Int c.common-in-Comparison.ensures) (ap t.Int c.common-in-Comparison-2.ensures)
