use Rattle.std.proofs.Common.{arith}
use Rattle.po_type_inits.proofs.SingleValues.{value_is_single, single_told}
use Rattle.po_type_inits.proofs.singles.single.Goals as goal

pub returns-in-One : goal.returns-in-One
returns-in-One c = value_is_single c.args.initialiser.now c.in-One.x c.in-One.is

pub returns-else-inside-ne1 : goal.returns-else-inside-ne1
returns-else-inside-ne1 c =
    single_told c.args.initialiser.now c.in-Many.items c.in-Many.field-1 c.in-Many.is c.as_slice-inside.result.now c.as_slice-inside.ensures c.index-inside-0.result (omega (arith, c.if-inside-ne1.false)) c.index-inside-0.is c.value.result c.value.ensures
