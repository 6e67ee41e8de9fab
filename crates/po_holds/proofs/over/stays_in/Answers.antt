use Rattle.po_holds.proofs.Chosen.{through}
use Rattle.po_holds.proofs.Widths.{negated_stay}
use Rattle.po_holds.proofs.over.stays_in.Goals as goal

pub returns-in-Add : goal.returns-in-Add
returns-in-Add c =
    rw c.in-Add.is c.sums_stay.ensures

pub returns-in-Sub : goal.returns-in-Sub
returns-in-Sub c =
    rw c.in-Sub.is c.differences_stay.ensures

pub returns-in-Mul : goal.returns-in-Mul
returns-in-Mul c =
    rw c.in-Mul.is c.products_stay.ensures

pub returns-in-Div : goal.returns-in-Div
returns-in-Div c =
    rw c.in-Div.is c.quotients_stay.ensures

pub returns-in-Rem : goal.returns-in-Rem
returns-in-Rem c =
    rw c.in-Rem.is c.quotients_stay-in-Rem.ensures

pub returns-in-Shl : goal.returns-in-Shl
returns-in-Shl c =
    rw c.in-Shl.is c.shifts_stay.ensures

pub returns-in-Neg : goal.returns-in-Neg
returns-in-Neg c =
    rw c.in-Neg.is (through c.negations_stay.ensures (negated_stay c.args.bits c.args.v.now c.args.w.now c.requires.w))
