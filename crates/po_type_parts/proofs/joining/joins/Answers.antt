use Rattle.std.proofs.Common.{subst}
use Rattle.po_lists.proofs.Results.{if_ok-map}
use Rattle.po_operands.specs.Combining.{CombinesTo}
use Rattle.po_constants.specs.Found.{Finds}
use Rattle.po_choices.proofs.Whether.{found_as}
use Rattle.po_type_parts.proofs.JoinedTypes.{combined, joins_equal, to_join, from_join}
use Rattle.po_type_parts.proofs.joining.joins.Goals as goal

pub returns-in-Some : goal.returns-in-Some
returns-in-Some c = combined c.args.context.now c.args.x.now c.args.y.now c.args.op c.args.u.now c.args.v.now c.in-Some.combined (subst (Finds (CombinesTo c.args.context.now c.args.op c.args.u.now c.args.v.now)) c.in-Some.is c.in_ok-combined.ensures)

pub returns-then-not-is_equality : goal.returns-then-not-is_equality
returns-then-not-is_equality c =
    let none = subst (Finds (CombinesTo c.args.context.now c.args.op c.args.u.now c.args.v.now)) c.in-None.is c.in_ok-combined.ensures in
    joins_equal c.args.context.now c.args.x.now c.args.y.now c.args.op c.args.u.now c.args.v.now none c.if-not-is_equality.ensures

pub returns : goal.returns
returns c =
    let none = subst (Finds (CombinesTo c.args.context.now c.args.op c.args.u.now c.args.v.now)) c.in-None.is c.in_ok-combined.ensures in
    if_ok-map c.compares_with_zero.result (λ o. found_as o (to_join c.args.context.now c.args.x.now c.args.y.now c.args.op c.args.u.now c.args.v.now none c.if-not-is_equality.ensures) (from_join c.args.context.now c.args.x.now c.args.y.now c.args.op c.args.u.now c.args.v.now none)) c.compares_with_zero.ensures
