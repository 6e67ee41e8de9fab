use Rattle.po_lists.proofs.Results.{if_ok-map}
use Rattle.po_choices.proofs.Whether.{found_as}
use Rattle.po_type_parts.proofs.JoinedTypes.{zero_right, right_zero, zero_left, left_zero}
use Rattle.po_type_parts.proofs.joining.compares_with_zero.Goals as goal

pub returns-in-Int-v : goal.returns-in-Int-v
returns-in-Int-v c = if_ok-map c.with_zero.result (λ o. found_as o (zero_right c.args.context.now c.args.x.now c.args.y.now c.args.u.now c.args.v.now c.in-Ptr.field-0 c.in-Int-v.field-0 c.in-Ptr.is c.in-Int-v.is) (right_zero c.args.context.now c.args.x.now c.args.y.now c.args.u.now c.args.v.now c.in-Ptr.field-0 c.in-Int-v.field-0 c.in-Ptr.is c.in-Int-v.is)) c.with_zero.ensures

pub returns-in-Ptr-v : goal.returns-in-Ptr-v
returns-in-Ptr-v c = if_ok-map c.with_zero-in-Ptr-v.result (λ o. found_as o (zero_left c.args.context.now c.args.x.now c.args.y.now c.args.u.now c.args.v.now c.in-Ptr-v.field-0 c.in-Int.field-0 c.in-Int.is c.in-Ptr-v.is) (left_zero c.args.context.now c.args.x.now c.args.y.now c.args.u.now c.args.v.now c.in-Ptr-v.field-0 c.in-Int.field-0 c.in-Int.is c.in-Ptr-v.is)) c.with_zero-in-Ptr-v.ensures
