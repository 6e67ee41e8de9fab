use Rattle.po_operands.proofs.Combinations.{moved_on, moved_back, moves_over_objects}
use Rattle.po_operands.proofs.combining.pointer_and_number.Goals as goal

pub returns-then-not-is_complete : goal.returns-then-not-is_complete
returns-then-not-is_complete c = moves_over_objects c.args.context.now c.args.op c.args.t.now c.args.to.now c.args.s c.requires c.if-not-is_complete.ensures

pub returns-in_ok-moved-in-Add : goal.returns-in_ok-moved-in-Add
returns-in_ok-moved-in-Add c = moved_on c.args.context.now c.args.op c.args.t.now c.args.to.now c.args.s c.requires c.in_ok-moved-in-Add.field-0 c.if-not-is_complete.ensures c.in-Add.is c.in_ok-moved-in-Add.ensures

pub returns-in_ok-moved-in-Sub : goal.returns-in_ok-moved-in-Sub
returns-in_ok-moved-in-Sub c = moved_back c.args.context.now c.args.op c.args.t.now c.args.to.now c.args.s c.requires c.in_ok-moved-in-Sub.field-0 c.if-not-is_complete.ensures c.in-Sub.is c.in_ok-moved-in-Sub.ensures
