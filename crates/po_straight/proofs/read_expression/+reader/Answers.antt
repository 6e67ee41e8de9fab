use Rattle.std.proofs.Common.{◌≡◌, ◌+◌, ◌∷◌, [], ◌++◌, drop, arith, sym, ap, refl, ◌∙◌, drop_of_length-le}
use Rattle.std.proofs.lemmas.Result.{IfOk-weaker}
use Rattle.po_straight.specs.declared.lexeme.Sign.TheVariants as s
use Rattle.po_straight.specs.declared.expression.Expression.TheVariants as e
use Rattle.po_straight.specs.Expressions.{height}
use Rattle.po_straight.specs.Reading.{Operand, parameter, constant, stop, without}
use Rattle.po_straight.specs.Places.{height_of_call}
use Rattle.po_straight.specs.Heights.{height-Parameter, height-Constant, height-Paren, height-Call, height-Binary}
use Rattle.po_straight.proofs.Rules.{at_place, low_level, starts, steps, too_high, no_right, no_operand, none_at_end, none_flat, none_begun, none_closed, found_closed, none_unclosed, is_closed, stands_at}
use Rattle.po_straight.proofs.Calls.{none_named, none_open, none_arguments, none_fitting, is_call, height_push, are_arguments, items_start, items_more, items_end, items_stuck, items_unparted}
use Rattle.po_straight.proofs.read_expression.+reader.Goals as goal
use Rattle.po_straight.proofs.read_expression.+reader.Goals.{operand-then-depth-eq0-via-then-depth-eq0, operand-then-depth-eq0-via-else-depth-eq0+then-at-lexemes}

pub closed-returns-then-not-stands : goal.closed-returns-then-not-stands
closed-returns-then-not-stands t c =
    let f = rw c.in-Some.is at c.in_ok-inner.ensures in
    λ x us w g. none_unclosed c.requires.differ f.0 (λ b. let q = c.if-not-stands.ensures.1 b in cc) w

pub closed-returns : goal.closed-returns
closed-returns t c =
    let f = rw c.in-Some.is at c.in_ok-inner.ensures in
    let p = is_closed c.args.at c.in-Some.inner.end c.args.lexemes.now f.0 (c.if-not-stands.ensures.0 refl) in
    (p.0, f.1, f.2, omega (arith, f.3), omega (arith, p.1))

pub expression-returns-in_default : goal.expression-returns-in_default
expression-returns-in_default t c = no_operand c.args.level c.args.depth (rw c.in_default.is at c.in_ok-found.ensures)

pub expression-loop-operator-init : goal.expression-loop-operator-init
expression-loop-operator-init t c =
    let f = rw c.in-Some.is at c.in_ok-found.ensures in
    record { leads = starts c.args.level c.requires.differ f.0; own = omega arith; high = f.1; shallow = f.2; after = f.3; within = f.4 }

pub expression-returns-then-found-depth : goal.expression-returns-then-found-depth
expression-returns-then-found-depth t c =
    let i = c.loop-operator.invariant in
    too_high c.requires.differ c.in-Some-operator_at.operator c.loop-operator.found.end c.args.lexemes.now i.leads c.in-Some-operator_at.ensures.value c.args.depth (omega (arith, i.high, c.if-found-depth.true))

pub expression-returns-in_default-2 : goal.expression-returns-in_default-2
expression-returns-in_default-2 t c =
    let i = c.loop-operator.invariant in
    no_right c.requires.differ c.in-Some-operator_at.operator c.loop-operator.found.end c.args.lexemes.now i.leads c.in-Some-operator_at.ensures.value c.args.depth (rw c.in_default-2.is at c.in_ok-right.ensures)

pub expression-loop-operator-preserved : goal.expression-loop-operator-preserved
expression-loop-operator-preserved t c =
    let i = c.loop-operator.invariant in
    let f = rw c.in-Some-2.is at c.in_ok-right.ensures in
    let j = c.in_ok-found-2.ensures in
    let s = steps c.requires.differ c.in-Some-operator_at.operator c.loop-operator.found.end c.args.lexemes.now i.leads c.in-Some-operator_at.ensures.value _ _ f.0 in
    let h = low_level c.args.level c.loop-operator.own c.in-Some-operator_at.operator c.loop-operator.found.end c.args.lexemes.now c.in-Some-operator_at.ensures.value in
    let q = height-Binary c.in-Some-operator_at.operator.op c.in-Some-operator_at.operator.line c.loop-operator.found.value c.in-Some-2.right.value in
    record {
      leads = rw (j.0, j.2) s;
      own = omega (arith, h);
      high = omega (arith, j.1, i.high, f.1, q, ap height j.0);
      shallow = omega (arith, j.1, f.2, i.shallow, c.if-found-depth.false);
      after = omega (arith, j.2, f.3, i.after);
      within = rw j.2 f.4;
    }

pub expression-returns : goal.expression-returns
expression-returns t c =
    let i = c.loop-operator.invariant in
    (i.leads.forth _ _ (stop _ _ _ _ c.in_default-operator_at.ensures.value), i.high, i.shallow, i.after, i.within)

pub operand-returns-then-depth-eq0 : goal.operand-returns-then-depth-eq0
operand-returns-then-depth-eq0 t c = λ x us w h.
    elim c.then-depth-eq0.branch [
      | operand-then-depth-eq0-via-then-depth-eq0 v ↦ none_flat w (omega (arith, h, v.if-depth-eq0.true))
      | operand-then-depth-eq0-via-else-depth-eq0+then-at-lexemes v ↦ none_at_end w (drop_of_length-le c.args.lexemes.now (omega (arith, v.if-at-lexemes.true)))
    ]

pub operand-returns-in-Some : goal.operand-returns-in-Some
operand-returns-in-Some t c =
    let l = c.leaf.ensures in
    let here = at_place c.args.at c.args.lexemes.now c.index-lexemes-at.result (omega arith) in
    let w : Operand c.args.scope.now (drop c.args.at c.args.lexemes.now) (e.Parameter c.in-Some.n) (drop (c.args.at + 1) c.args.lexemes.now) =
    rw here (parameter c.in-Some.n _ _ _ c.in-Name.is c.in-Some.ensures) in
    (rw (l.0, l.2) w, rw (l.0, l.1) (sym (height-Parameter c.in-Some.n)), omega (arith, l.1), omega (arith, l.2), omega (arith, l.2))

pub operand-returns-in-Constant : goal.operand-returns-in-Constant
operand-returns-in-Constant t c =
    let l = c.leaf-in-Constant.ensures in
    let here = at_place c.args.at c.args.lexemes.now c.index-lexemes-at.result (omega arith) in
    let w : Operand c.args.scope.now (drop c.args.at c.args.lexemes.now) (e.Constant c.in-Constant.value) (drop (c.args.at + 1) c.args.lexemes.now) =
    rw here (constant c.in-Constant.value _ _ c.in-Constant.is) in
    (rw (l.0, l.2) w, rw (l.0, l.1) (sym (height-Constant c.in-Constant.value)), omega (arith, l.1), omega (arith, l.2), omega (arith, l.2))

pub operand-returns-in_ok-enclose-in-Some-2 : goal.operand-returns-in_ok-enclose-in-Some-2
operand-returns-in_ok-enclose-in-Some-2 t c =
    let f = rw c.in-Some-2.is at c.in_ok-inner-in-Open.ensures in
    let l = c.in_ok-enclose-in-Some-2.ensures in
    let here = at_place c.args.at c.args.lexemes.now c.index-lexemes-at.result (omega arith) in
    let w = found_closed _ _ c.in-Open.is here f.0 in
    let q = height-Paren c.in-Some-2.inner.value in
    (rw (l.0, l.2) w, omega (arith, ap height l.0, l.1, f.1, q), omega (arith, l.1, f.2), omega (arith, l.2, f.3), rw l.2 f.4)

pub operand-returns-in-None-2 : goal.operand-returns-in-None-2
operand-returns-in-None-2 t c =
    let here = at_place c.args.at c.args.lexemes.now c.index-lexemes-at.result (omega arith) in
    λ x us w h. none_closed c.args.depth _ _ c.in-Open.is (rw c.in-None-2.is at c.in_ok-inner-in-Open.ensures) here w h

pub operand-returns-in_default : goal.operand-returns-in_default
operand-returns-in_default t c =
    let here = at_place c.args.at c.args.lexemes.now c.index-lexemes-at.result (omega arith) in
    λ x us w h. none_begun _ _ c.in_default.not-Name c.in_default.not-Constant c.in_default.not-Open here w

pub call_at-returns-in_default : goal.call_at-returns-in_default
call_at-returns-in_default t c =
    let at = stands_at (s.Name c.args.name.now) c.args.at c.args.lexemes.now c.requires.named in
    λ x us w h. none_named at.0.mark _ _ at.1 c.requires.called at.0.here w c.in_default.ensures

pub call_at-returns-then-not-stands : goal.call_at-returns-then-not-stands
call_at-returns-then-not-stands t c =
    let at = stands_at (s.Name c.args.name.now) c.args.at c.args.lexemes.now c.requires.named in
    λ x us w h. none_open at.0.mark _ _ at.1 c.requires.called at.0.here w (λ b. let q = c.if-not-stands.ensures.1 b in cc)

pub call_at-returns-in_default-2 : goal.call_at-returns-in_default-2
call_at-returns-in_default-2 t c =
    let at = stands_at (s.Name c.args.name.now) c.args.at c.args.lexemes.now c.requires.named in
    let open_ = stands_at s.Open (c.args.at + 1) c.args.lexemes.now (c.if-not-stands.ensures.0 refl) in
    λ x us w h. none_arguments at.0.mark _ _ at.1 c.requires.called at.0.here w c.args.depth open_.0.mark _ open_.0.here (rw c.in_default-2.is at c.in_ok-arguments.ensures) h

pub call_at-returns-then-len-function : goal.call_at-returns-then-len-function
call_at-returns-then-len-function t c =
    let at = stands_at (s.Name c.args.name.now) c.args.at c.args.lexemes.now c.requires.named in
    let open_ = stands_at s.Open (c.args.at + 1) c.args.lexemes.now (c.if-not-stands.ensures.0 refl) in
    let f = rw c.in-Some-2.is at c.in_ok-arguments.ensures in
    λ x us w h. none_fitting at.0.mark _ _ at.1 c.requires.called at.0.here w c.requires.differ c.in-Some.function.place _ open_.0.mark c.in-Some-2.arguments.values _ _ open_.0.here c.in-Some.ensures refl f.0
    (rw c.len.ensures at c.if-len-function.true)

pub call_at-returns : goal.call_at-returns
call_at-returns t c =
    let f = rw c.in-Some-2.is at c.in_ok-arguments.ensures in
    let l = c.call.ensures in
    let q = ap height l.0 ∙ height-Call _ _ _ in
    let w = is_call c.args.at c.args.lexemes.now _ c.in-Some.function.place c.in-Some.function.count c.args.name.now c.in-Some-2.arguments.values
    c.requires.named c.requires.called (c.if-not-stands.ensures.0 refl) c.in-Some.ensures f.0 (sym c.len.ensures ∙ c.if-len-function.false) l.0 in
    (rw l.2 w, omega (arith, l.1, f.1, q), omega (arith, l.1, f.2, c.requires.some), omega (arith, l.2, f.3), rw l.2 f.4)

pub arguments_at-returns-then-stands : goal.arguments_at-returns-then-stands
arguments_at-returns-then-stands t c =
    let last = stands_at s.Close c.args.at c.args.lexemes.now (c.if-stands.ensures.0 refl) in
    rw c.new.ensures (rw last.0.here (without last.0.mark _ last.1), refl, omega (arith, c.if-depth-eq0.false), omega arith, omega (arith, last.0.within))

pub arguments_at-returns : goal.arguments_at-returns
arguments_at-returns t c =
    IfOk-weaker c.items_at.result _ _ (λ found h. are_arguments c.args.scope.now c.args.depth c.args.at c.args.lexemes.now (λ b. let q = c.if-stands.ensures.1 b in cc) found h) c.items_at.ensures

pub items_at-loop-values-init : goal.items_at-loop-values-init
items_at-loop-values-init t c =
    rw c.new-values.ensures (record { lead = items_start _; high = refl; shallow = c.requires.some; after = omega arith })

pub items_at-returns-in_default : goal.items_at-returns-in_default
items_at-returns-in_default t c = items_stuck c.loop-values.invariant.lead c.args.depth (rw c.in_default.is at c.in_ok-argument.ensures)

pub items_at-returns-then-stands : goal.items_at-returns-then-stands
items_at-returns-then-stands t c =
    let i = c.loop-values.invariant in
    let f = rw c.in-Some.is at c.in_ok-argument.ensures in
    let last = stands_at s.Close c.in-Some.argument.end c.args.lexemes.now (c.if-stands.ensures.0 refl) in
    let grown : c.push.new.self ≡ c.loop-values.values ++ c.in-Some.argument.value ∷ [] = c.in_ok-push.ensures.ok in (
      items_end i.lead last.0.mark c.push.new.self last.1 grown (rw last.0.here at f.0),
      omega (arith, c.max-height.ensures, i.high, f.1, ap height_of_call grown, height_push c.loop-values.values c.in-Some.argument.value),
      omega (arith, c.max-height.ensures, i.shallow, f.2),
      omega (arith, i.after, f.3),
      omega (arith, last.0.within),
    )

pub items_at-returns-then-not-stands : goal.items_at-returns-then-not-stands
items_at-returns-then-not-stands t c =
    let f = rw c.in-Some.is at c.in_ok-argument.ensures in
    λ zs us w h. items_unparted c.loop-values.invariant.lead c.requires.differ f.0 (λ b. let q = c.if-stands.ensures.1 b in cc) (λ b. let q = c.if-not-stands.ensures.1 b in cc) zs us w

pub items_at-loop-values-preserved : goal.items_at-loop-values-preserved
items_at-loop-values-preserved t c =
    let i = c.loop-values.invariant in
    let f = rw c.in-Some.is at c.in_ok-argument.ensures in
    let mark = stands_at s.Comma c.in-Some.argument.end c.args.lexemes.now (c.if-not-stands.ensures.0 refl) in
    let grown : c.push.new.self ≡ c.loop-values.values ++ c.in-Some.argument.value ∷ [] = c.in_ok-push.ensures.ok in
    record {
      lead = items_more i.lead mark.0.mark c.push.new.self c.requires.differ mark.1 grown (rw mark.0.here at f.0);
      high = omega (arith, c.max-height.ensures, i.high, f.1, ap height_of_call grown, height_push c.loop-values.values c.in-Some.argument.value);
      shallow = omega (arith, c.max-height.ensures, i.shallow, f.2);
      after = omega (arith, i.after, f.3);
    }
