use Rattle.std.proofs.Common.{sym, ap, ◌∙◌, refl, take, subst}
use Rattle.std.proofs.lemmas.List.{take_all}
use Rattle.po_assigning.proofs.Gathered.{adds_none, adds_along, adds_then, some_one, some_more, whole_one, whole_list, whole_named, whole_two, whole_assigning, whole_three}
use Rattle.po_assigning.specs.Gathering.{GathersMore, some_assigns}
use Rattle.po_assigning.proofs.Assigned.{of_leaf, of_one, of_step, of_two, of_Assign, of_Cond, of_Call}
use Rattle.po_assigning.proofs.assigning.+assigning.Goals as goal

pub gather_each-loop-x-init : goal.gather_each-loop-x-init
gather_each-loop-x-init t c = adds_none _ _ (λ p. refl)

pub gather_each-loop-x-preserved : goal.gather_each-loop-x-preserved
gather_each-loop-x-preserved t c = adds_along (λ p. sym (some_more p c.args.xs.now c.loop-x.x-index c.x-item.result c.loop-x-test.true c.x-item.is)) (adds_then c.loop-x.invariant c.in_ok-gather_more.ensures)

pub gather_each-returns : goal.gather_each-returns
gather_each-returns t c = adds_along (λ p. ap (some_assigns p) (take_all c.loop-x.x-index c.args.xs.now c.loop-x-test.false)) c.loop-x.invariant

pub gather_more-returns-in_ok-gather_more-in-Assign-2 : goal.gather_more-returns-in_ok-gather_more-in-Assign-2
gather_more-returns-in_ok-gather_more-in-Assign-2 t c =
    let f = rw c.get.ensures at c.in_ok-add_name-in-Assign.ensures in
    let g = rw c.get-in-Assign.ensures at c.in_ok-gather_more-in-Assign.ensures in
    let k = rw c.get-in-Assign-2.ensures at c.in_ok-gather_more-in-Assign-2.ensures in
    whole_assigning c.args.x.now c.in-Assign.x c.in-Assign.y (λ p. of_Assign p c.args.x.now c.in-Assign.field-0 c.in-Assign.x c.in-Assign.y c.in-Assign.is) f g k

pub gather_more-returns-in_ok-gather_more-in-Cond-3 : goal.gather_more-returns-in_ok-gather_more-in-Cond-3
gather_more-returns-in_ok-gather_more-in-Cond-3 t c =
    let f = rw c.get-in-Cond.ensures at c.in_ok-gather_more-in-Cond.ensures in
    let g = rw c.get-in-Cond-2.ensures at c.in_ok-gather_more-in-Cond-2.ensures in
    let k = rw c.get-in-Cond-3.ensures at c.in_ok-gather_more-in-Cond-3.ensures in
    whole_three c.args.x.now c.in-Cond.x c.in-Cond.y c.in-Cond.z (λ p. of_Cond p c.args.x.now c.in-Cond.x c.in-Cond.y c.in-Cond.z c.in-Cond.is) f g k

pub gather_more-returns-in_ok-gather_more-in-Index-2 : goal.gather_more-returns-in_ok-gather_more-in-Index-2
gather_more-returns-in_ok-gather_more-in-Index-2 t c =
    let f = rw c.get-in-Index.ensures at c.in_ok-gather_more-in-Index.ensures in
    let g = rw c.get-in-Index-2.ensures at c.in_ok-gather_more-in-Index-2.ensures in
    whole_two c.args.x.now c.in-Index.x c.in-Index.y (λ p. of_two p c.args.x.now c.in-Index.x c.in-Index.y c.in-Index.is) f g

pub gather_more-returns-in_ok-gather_more-in-PostInc : goal.gather_more-returns-in_ok-gather_more-in-PostInc
gather_more-returns-in_ok-gather_more-in-PostInc t c =
    let f = rw c.get-in-PostInc.ensures at c.in_ok-add_name-in-PostInc.ensures in
    let g = rw c.get-in-PostInc-2.ensures at c.in_ok-gather_more-in-PostInc.ensures in
    whole_named c.args.x.now c.in-PostInc.x (λ p. of_step p c.args.x.now c.in-PostInc.x c.in-PostInc.is) f g

pub gather_more-returns-in_ok-gather_more-in-Paren : goal.gather_more-returns-in_ok-gather_more-in-Paren
gather_more-returns-in_ok-gather_more-in-Paren t c =
    let f = rw c.get-in-Paren.ensures at c.in_ok-gather_more-in-Paren.ensures in
    whole_one c.args.x.now c.in-Paren.x (λ p. of_one p c.args.x.now c.in-Paren.x c.in-Paren.is) f

pub gather_more-returns-in-Var : goal.gather_more-returns-in-Var
gather_more-returns-in-Var t c = adds_none _ _ (λ p. some_one p c.args.x.now ∙ of_leaf p c.args.x.now c.in-Var.is)

pub gather_more-returns-in-Var-2 : goal.gather_more-returns-in-Var-2
gather_more-returns-in-Var-2 t c = adds_none _ _ (λ p. some_one p c.args.x.now ∙ of_leaf p c.args.x.now c.in-Var.is)

pub gather_more-returns-in-Var-3 : goal.gather_more-returns-in-Var-3
gather_more-returns-in-Var-3 t c = adds_none _ _ (λ p. some_one p c.args.x.now ∙ of_leaf p c.args.x.now c.in-Var.is)

pub gather_more-returns-in-Var-4 : goal.gather_more-returns-in-Var-4
gather_more-returns-in-Var-4 t c = adds_none _ _ (λ p. some_one p c.args.x.now ∙ of_leaf p c.args.x.now c.in-Var.is)

pub gather_more-returns-in-Var-5 : goal.gather_more-returns-in-Var-5
gather_more-returns-in-Var-5 t c = adds_none _ _ (λ p. some_one p c.args.x.now ∙ of_leaf p c.args.x.now c.in-Var.is)

pub gather_more-returns-in-Var-6 : goal.gather_more-returns-in-Var-6
gather_more-returns-in-Var-6 t c = adds_none _ _ (λ p. some_one p c.args.x.now ∙ of_leaf p c.args.x.now c.in-Var.is)

pub gather_more-returns-in_ok-gather_each-in-Call : goal.gather_more-returns-in_ok-gather_each-in-Call
gather_more-returns-in_ok-gather_each-in-Call t c =
    let f = rw c.as_slice.ensures at c.in_ok-gather_each-in-Call.ensures in
    whole_list c.args.x.now c.in-Call.xs (λ p. of_Call p c.args.x.now c.in-Call.field-0 c.in-Call.xs c.in-Call.is) f
