use Rattle.std.proofs.Common.{[], ◌<◌, ◌^◌, FitsSigned, arith, refl, rules, subst, sym, take_all}
use Rattle.std.proofs.lemmas.Int.{to_z-of_z}
use mir.Syntax.{w128}
use Rattle.po_base.specs.declared.operand.Opnd.TheVariants.{Num}
use Rattle.po_app.specs.Lowered.{Appends, AppendsAll}
use Rattle.po_app.proofs.Lowers.{within, parts, called, argument, appends-Parameter, appends-Constant, appends-Paren, appends-Binary, appends-Call, appends_none, appends_more, appends-length, appends_all-length}
use Rattle.po_app.proofs.lowering.+lowering.Goals as goal

pub lower_expression-lower_expression-requires : goal.lower_expression-lower_expression-requires
lower_expression-lower_expression-requires t c =
    let p = within c.args.x.now _ _ c.in-Paren.is c.get.ensures in
    (omega (arith, p.0, c.decreases), omega (arith, p.1, c.requires))

pub lower_expression-lower_expression-requires-in-Binary : goal.lower_expression-lower_expression-requires-in-Binary
lower_expression-lower_expression-requires-in-Binary t c =
    let p = parts c.args.x.now _ _ c.get-in-Binary.result.now _ _ _ c.in-Binary.is c.get-in-Binary.ensures refl in
    (omega (arith, p.0, c.decreases), omega (arith, p.2, c.requires))

pub lower_expression-lower_expression-requires-in-Binary-2 : goal.lower_expression-lower_expression-requires-in-Binary-2
lower_expression-lower_expression-requires-in-Binary-2 t c =
    let p = parts c.args.x.now _ _ c.get-in-Binary.result.now c.get-in-Binary-2.result.now _ _ c.in-Binary.is c.get-in-Binary.ensures c.get-in-Binary-2.ensures in
    let first = appends-length _ _ _ _ _ _ c.in_ok-a-in-Binary.ensures in
    (omega (arith, p.1, c.decreases), omega (arith, p.2, first, c.requires))

pub lower_expression-overflow_cast-to : goal.lower_expression-overflow_cast-to
lower_expression-overflow_cast-to t c =
    let p = parts c.args.x.now _ _ c.get-in-Binary.result.now c.get-in-Binary-2.result.now _ _ c.in-Binary.is c.get-in-Binary.ensures c.get-in-Binary-2.ensures in
    let first = appends-length _ _ _ _ _ _ c.in_ok-a-in-Binary.ensures in
    let second = appends-length _ _ _ _ _ _ c.in_ok-b-in-Binary.ensures in
    omega (arith, p.2, first, second, c.len.ensures, c.requires)

pub lower_expression-overflow_add-to : goal.lower_expression-overflow_add-to
lower_expression-overflow_add-to t c =
    let p = parts c.args.x.now _ _ c.get-in-Binary.result.now c.get-in-Binary-2.result.now _ _ c.in-Binary.is c.get-in-Binary.ensures c.get-in-Binary-2.ensures in
    let first = appends-length _ _ _ _ _ _ c.in_ok-a-in-Binary.ensures in
    let second = appends-length _ _ _ _ _ _ c.in_ok-b-in-Binary.ensures in
    omega (arith, p.2, first, second, c.len.ensures, c.requires)

pub lower_expression-lower_arguments-requires : goal.lower_expression-lower_arguments-requires
lower_expression-lower_arguments-requires t c =
    let p = called c.args.x.now _ _ _ _ c.in-Call.is c.as_slice.ensures in
    (omega (arith, p.0, c.decreases), omega (arith, p.1, c.requires))

pub lower_expression-overflow_cast-to-in-Call : goal.lower_expression-overflow_cast-to-in-Call
lower_expression-overflow_cast-to-in-Call t c =
    let p = called c.args.x.now _ _ _ _ c.in-Call.is c.as_slice.ensures in
    let all = appends_all-length _ _ _ _ _ _ c.in_ok-values-in-Call.ensures in
    omega (arith, p.1, all, c.len-in-Call.ensures, c.requires)

pub lower_expression-overflow_add-to-in-Call : goal.lower_expression-overflow_add-to-in-Call
lower_expression-overflow_add-to-in-Call t c =
    let p = called c.args.x.now _ _ _ _ c.in-Call.is c.as_slice.ensures in
    let all = appends_all-length _ _ _ _ _ _ c.in_ok-values-in-Call.ensures in
    omega (arith, p.1, all, c.len-in-Call.ensures, c.requires)

pub lower_expression-returns-in-Parameter : goal.lower_expression-returns-in-Parameter
lower_expression-returns-in-Parameter t c = appends-Parameter _ _ _ _ _ c.in-Parameter.is

pub lower_expression-returns-in-Constant : goal.lower_expression-returns-in-Constant
lower_expression-returns-in-Constant t c =
    let fits : FitsSigned w128 c.from.result = search rules in
    let below : c.in-Constant.value < 2 ^ 32 = omega arith in
    rw (to_z-of_z w128 c.from.result fits) (subst (λ z. Appends c.args.file.now c.args.parameters c.args.x.now c.args.nodes.now c.args.nodes.now (Num z)) (sym c.from.ensures) (appends-Constant _ _ c.in-Constant.value _ _ below c.in-Constant.is))

pub lower_expression-returns-in_ok-lower_expression-in-Paren : goal.lower_expression-returns-in_ok-lower_expression-in-Paren
lower_expression-returns-in_ok-lower_expression-in-Paren t c = appends-Paren _ _ _ _ _ _ _ _ c.in-Paren.is c.get.ensures c.in_ok-lower_expression-in-Paren.ensures

pub lower_expression-returns-in_ok-push-in-Binary : goal.lower_expression-returns-in_ok-push-in-Binary
lower_expression-returns-in_ok-push-in-Binary t c = appends-Binary _ _ _ _ _ _ _ _ _ _ _ _ _ _ _ _ _ c.in-Binary.is c.get-in-Binary.ensures c.get-in-Binary-2.ensures c.in_ok-a-in-Binary.ensures c.in_ok-b-in-Binary.ensures c.len.ensures c.in_ok-operation-in-Binary.ensures c.in_ok-push-in-Binary.ensures.ok

pub lower_expression-returns-in_ok-push-in-Call : goal.lower_expression-returns-in_ok-push-in-Call
lower_expression-returns-in_ok-push-in-Call t c = appends-Call _ _ _ _ _ _ _ _ _ _ _ _ _ c.in-Call.is c.as_slice.ensures c.in_ok-call-in-Call.ensures.few c.in_ok-values-in-Call.ensures c.len-in-Call.ensures c.in_ok-call-in-Call.ensures.node c.in_ok-push-in-Call.ensures.ok

pub lower_arguments-loop-argument-init : goal.lower_arguments-loop-argument-init
lower_arguments-loop-argument-init t c = subst (λ l. AppendsAll c.args.file.now c.args.parameters [] c.args.nodes.now c.args.nodes.now l) (sym c.new-values.ensures) (appends_none _ _ _)

pub lower_arguments-lower_expression-requires : goal.lower_arguments-lower_expression-requires
lower_arguments-lower_expression-requires t c =
    let p = argument c.args.arguments.now c.loop-argument.argument-index c.argument-item.result c.argument-item.is c.loop-argument-test.true in
    let so_far = appends_all-length _ _ _ _ _ _ c.loop-argument.invariant in
    (omega (arith, p.0, c.decreases), omega (arith, p.1, so_far, c.requires))

pub lower_arguments-loop-argument-preserved : goal.lower_arguments-loop-argument-preserved
lower_arguments-loop-argument-preserved t c =
    appends_more _ _ c.args.arguments.now c.loop-argument.argument-index _ c.argument-item.result _ _ _ _ _ _ c.loop-argument-test.true c.argument-item.is refl c.loop-argument.invariant c.in_ok-lower_expression.ensures c.in_ok-push.ensures.ok

pub lower_arguments-returns : goal.lower_arguments-returns
lower_arguments-returns t c =
    subst (λ l. AppendsAll c.args.file.now c.args.parameters l c.args.nodes.now c.loop-argument.nodes c.loop-argument.values) (take_all c.loop-argument.argument-index c.args.arguments.now c.loop-argument-test.false) c.loop-argument.invariant
