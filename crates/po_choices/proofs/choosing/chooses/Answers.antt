use Rattle.po_lists.proofs.Results.{if_ok-map}
use Rattle.po_typed.specs.Expressions.{numbers, voids}
use Rattle.po_choices.proofs.Whether.{found_as}
use Rattle.po_choices.proofs.ChoicesOfTypes.{from_zero_left, by_zero_left, from_zero_right, by_zero_right}
use Rattle.po_choices.proofs.choosing.chooses.Goals as goal

pub returns-in-Void-v : goal.returns-in-Void-v
returns-in-Void-v c = rw (c.in-Void.is, c.in-Void-v.is) voids

pub returns-in-Int-v : goal.returns-in-Int-v
returns-in-Int-v c = rw (c.in-Int.is, c.in-Int-v.is, c.common.ensures) (numbers c.in-Int.s c.in-Int-v.t)

pub returns-in-Ptr-v : goal.returns-in-Ptr-v
returns-in-Ptr-v c = if_ok-map c.beside_zero.result (λ o. found_as o (by_zero_left c.args.context.now c.args.y.now c.args.z.now c.in-Ptr-v.to c.in-Int.s c.args.u.now c.args.v.now c.in-Int.is c.in-Ptr-v.is) (from_zero_left c.args.context.now c.args.y.now c.args.z.now c.in-Ptr-v.to c.in-Int.s c.args.u.now c.args.v.now c.in-Int.is c.in-Ptr-v.is)) c.beside_zero.ensures

pub returns-in-Int-v-2 : goal.returns-in-Int-v-2
returns-in-Int-v-2 c = if_ok-map c.beside_zero-in-Int-v-2.result (λ o. found_as o (by_zero_right c.args.context.now c.args.y.now c.args.z.now c.in-Ptr.to c.in-Int-v-2.field-0 c.args.u.now c.args.v.now c.in-Ptr.is c.in-Int-v-2.is) (from_zero_right c.args.context.now c.args.y.now c.args.z.now c.in-Ptr.to c.in-Int-v-2.field-0 c.args.u.now c.args.v.now c.in-Ptr.is c.in-Int-v-2.is)) c.beside_zero-in-Int-v-2.ensures
