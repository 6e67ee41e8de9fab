use Rattle.std.proofs.Common.{refl}
use Rattle.po_types.specs.declared.ctype.CType.TheVariants as t
use Rattle.po_operands.proofs.Combinations.{added_over_objects, moved_behind}
use Rattle.po_operands.proofs.combining.number_and_pointer.Goals as goal

pub returns-then-not-is_complete : goal.returns-then-not-is_complete
returns-then-not-is_complete c = added_over_objects c.args.context.now c.args.op c.args.t.now c.args.to.now c.args.s c.requires c.if-not-is_complete.ensures

pub returns-in_ok-share-in-Add-2 : goal.returns-in_ok-share-in-Add-2
returns-in_ok-share-in-Add-2 c = moved_behind c.args.context.now c.args.op c.args.t.now c.args.to.now c.args.s c.requires (record { result = c.in_ok-share-in-Add.field-0; left = t.Int c.args.s; right = c.in_ok-share-in-Add-2.field-0 }) c.if-not-is_complete.ensures c.in-Add.is c.in_ok-share-in-Add.ensures refl c.in_ok-share-in-Add-2.ensures
