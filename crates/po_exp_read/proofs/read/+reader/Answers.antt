use Rattle.std.proofs.Common.{◌≡◌, ◌≤◌, ◌∷◌, ◌+◌, ◌-◌, arith, sym, ap, refl, ◌∙◌, length}
use Rattle.std.specs.Prelude.{Some, None}
use Rattle.std.proofs.lemmas.Result.{IfOk-weaker}
use Rattle.po_tree.specs.Signs.{punct, closing, bracket, bracket_end, comma}
use Rattle.po_tree.specs.Layers.{height-Cast}
use Rattle.std.proofs.lemmas.Bool.{iff_false}
use Rattle.po_exp_parts.proofs.Standing.{stands_first, stands_within, at_end}
use Rattle.po_exp_read.proofs.Heights.{height-grow, operand_high}
use Rattle.po_exp_read.proofs.Shortening.{operand_shorten}
use Rattle.po_exp_read.proofs.Finding.{made_none, made_found, made_finds}
use Rattle.po_exp_read.proofs.Onward.{onward_none, onward_start, onward_step, onward_end, more_nowhere, more_too_high, more_none}
use Rattle.po_exp_read.proofs.Closed.{closed_best, closed_none, chosen_best, chosen_none}
use Rattle.po_exp_read.proofs.Operands.{paren_made, cast_low, cast_nowhere, cast_none, cast_best, unary_made, measures_none, size_here, size_made, right_made, index_made, call_made, step_best}
use Rattle.po_exp_parts.proofs.Leading.{leads_on}
use Rattle.po_exp_read.proofs.Items.{item_unparted, item_leads, items_best, arguments_empty, arguments_made, height_push}
use Rattle.po_exp_read.proofs.Sizes.{empty_leads, size_leads, size_nowhere, sizes_best, sizes_height_push, specs_empty, sizes_nowhere, type_best, type_open, type_sizes}
use Rattle.po_exp_read.proofs.read.+reader.Goals as goal

pub closed-returns-then-not-stands : goal.closed-returns-then-not-stands
closed-returns-then-not-stands t c =
    let f = rw c.in-Some.is at c.in_ok-inner.ensures in
    closed_none c.requires.closes (iff_false c.if-not-stands.ensures refl) f.best

pub closed-returns : goal.closed-returns
closed-returns t c =
    let f = rw c.in-Some.is at c.in_ok-inner.ensures in
    let here = c.if-not-stands.ensures.0 refl in
    record {
      best = closed_best (stands_first c.in-Some.inner.end c.args.tokens.now (punct c.args.last.now) here) f.best;
      counted = f.counted;
      after = omega (arith, f.after);
      within = omega (arith, stands_within c.in-Some.inner.end c.args.tokens.now (punct c.args.last.now) here);
    }

pub expression-returns-in_default : goal.expression-returns-in_default
expression-returns-in_default t c = onward_none (rw c.in_default.is at c.in_ok-first.ensures)

pub expression-loop-next-init : goal.expression-loop-next-init
expression-loop-next-init t c =
    let f = rw c.in-Some.is at c.in_ok-first.ensures in
    rw c.unleveled-found.ensures (record {
      onward = onward_start c.in-Some.first.value f.best;
      counted = omega (arith, f.counted);
      shallow = omega (arith, f.counted, f.best.shallow);
      after = f.after;
      within = f.within;
    })

pub expression-returns-then-found-depth : goal.expression-returns-then-found-depth
expression-returns-then-found-depth t c =
    let i = c.loop-next.invariant in
    record {
      best = onward_end i.onward (omega (arith, i.counted, i.shallow)) (more_too_high c.loop-next.found.value (omega (arith, i.counted, c.if-found-depth.true)));
      counted = i.counted;
      after = i.after;
      within = i.within;
    }

pub expression-returns-in_default-2 : goal.expression-returns-in_default-2
expression-returns-in_default-2 t c =
    let i = c.loop-next.invariant in
    let g = c.in-Some-continuation_at.ensures in
    record {
      best = onward_end i.onward (omega (arith, i.counted, i.shallow))
          (more_none c.loop-next.found.value c.in-Some-continuation_at.next _ g.0.0 g.1 (rw c.in_default-2.is at c.in_ok-tail.ensures));
      counted = i.counted;
      after = i.after;
      within = i.within;
    }

pub expression-loop-next-preserved : goal.expression-loop-next-preserved
expression-loop-next-preserved t c =
    let i = c.loop-next.invariant in
    let g = c.in-Some-continuation_at.ensures in
    let f = rw c.in-Some-2.is at c.in_ok-tail.ensures in
    rw (c.in_ok-found.ensures, c.level_of-own.ensures) (record {
      onward = onward_step c.in-Some-continuation_at.next _ g.0 c.in-Some-2.tail.value _ f.best g.1 i.onward;
      counted = omega (arith, i.counted, f.counted, height-grow c.loop-next.found.value c.in-Some-2.tail.value);
      shallow = omega (arith, f.counted, f.best.shallow, c.if-found-depth.false);
      after = omega (arith, i.after, f.after);
      within = f.within;
    })

pub expression-returns : goal.expression-returns
expression-returns t c =
    let i = c.loop-next.invariant in
    record {
      best = onward_end i.onward (omega (arith, i.counted, i.shallow)) (more_nowhere c.loop-next.found.value c.in_default-continuation_at.ensures);
      counted = i.counted;
      after = i.after;
      within = i.within;
    }

pub operand-returns-then-depth-eq0 : goal.operand-returns-then-depth-eq0
operand-returns-then-depth-eq0 t c = λ o us w h. omega (arith, operand_high w.1, h, c.if-depth-eq0.true)

pub operand-returns-then-at-tokens : goal.operand-returns-then-at-tokens
operand-returns-then-at-tokens t c = λ o us w h. omega (arith, operand_shorten w.1, ap length (at_end c.args.at c.args.tokens.now (omega (arith, c.if-at-tokens.true))))

pub operand-returns-then-eq : goal.operand-returns-then-eq
operand-returns-then-eq t c = c.strings_at.ensures c.args.names.now.typedefs c.args.least c.args.depth (omega (arith, c.requires.low)) (omega (arith, c.if-depth-eq0.false))

pub operand-returns-in-None : goal.operand-returns-in-None
operand-returns-in-None t c = c.leaf_at.ensures c.args.least c.args.depth (omega (arith, c.requires.low)) (omega (arith, c.if-depth-eq0.false))

pub parenthesised_at-returns-then-least-gt-CAST : goal.parenthesised_at-returns-then-least-gt-CAST
parenthesised_at-returns-then-least-gt-CAST t c = cast_low _ c.requires.here (c.if-starts_type.ensures.0 refl) (omega (arith, c.if-least-gt-CAST.true))

pub parenthesised_at-returns-in_ok-enclose-in-Some :
    goal.parenthesised_at-returns-in_ok-enclose-in-Some
parenthesised_at-returns-in_ok-enclose-in-Some t c =
    let f = rw c.in-Some.is at c.in_ok-inner.ensures in
    let made = paren_made _ (omega (arith, c.requires.low)) c.requires.here (iff_false c.if-starts_type.ensures refl) in
    let deeper : c.args.depth ≡ c.args.depth - 1 + 1 = omega (arith, c.requires.some) in
    let later : c.args.at ≤ c.args.at + 1 = omega arith in
    rw c.in_ok-enclose-in-Some.ensures (made_found made c.args.depth (c.args.depth - 1) deeper c.args.at (c.args.at + 1) c.args.tokens.now c.in-Some.inner later f)

pub parenthesised_at-returns-in-None : goal.parenthesised_at-returns-in-None
parenthesised_at-returns-in-None t c =
    let made = paren_made _ (omega (arith, c.requires.low)) c.requires.here (iff_false c.if-starts_type.ensures refl) in
    made_none made c.args.depth (c.args.depth - 1) (omega (arith, c.requires.some)) (rw c.in-None.is at c.in_ok-inner.ensures)

pub cast_at-returns-in_default : goal.cast_at-returns-in_default
cast_at-returns-in_default t c = cast_nowhere (c.args.depth - 1) _ c.requires.here c.requires.named (omega (arith, c.requires.some)) (rw c.in_default.is at c.in_ok-name.ensures)

pub cast_at-returns-in_default-2 : goal.cast_at-returns-in_default-2
cast_at-returns-in_default-2 t c =
    let f = rw c.in-Some.is at c.in_ok-name.ensures in
    cast_none (c.args.depth - 1) _ c.requires.here c.requires.named (omega (arith, c.requires.some)) c.in-Some.name.value _ f.best (rw c.in_default-2.is at c.in_ok-inner.ensures)

pub cast_at-returns : goal.cast_at-returns
cast_at-returns t c =
    let f = rw c.in-Some.is at c.in_ok-name.ensures in
    let i = rw c.in-Some-2.is at c.in_ok-inner.ensures in
    rw c.in_ok-convert.ensures (record {
      best = cast_best (c.args.depth - 1) _ c.requires.here c.requires.named (omega (arith, c.requires.some)) c.in-Some.name.value _ c.in-Some-2.inner.value _ c.requires.low f.best i.best;
      counted = omega (arith, f.counted, i.counted, height-Cast c.in-Some.name.value c.in-Some-2.inner.value);
      after = omega (arith, f.after, i.after);
      within = i.within;
    })

pub unary_at-returns-in_ok-measure-in-Some : goal.unary_at-returns-in_ok-measure-in-Some
unary_at-returns-in_ok-measure-in-Some t c = λ least high.
    let m = c.measures_type.ensures.0 c.if-measures_type.true in
    let here = size_here c.args.at c.args.tokens.now c.args.p c.requires.here m.0 m.1 in
    let f = rw c.in-Some.is at c.in_ok-name.ensures in
    rw c.in_ok-measure-in-Some.ensures (made_found (size_made _ high here m.2) c.args.depth (c.args.depth - 1) (omega (arith, c.requires.some)) c.args.at (c.args.at + 1 + 1) c.args.tokens.now c.in-Some.name (omega arith) f)

pub unary_at-returns-in-None : goal.unary_at-returns-in-None
unary_at-returns-in-None t c = λ least high.
    let m = c.measures_type.ensures.0 c.if-measures_type.true in
    let here = size_here c.args.at c.args.tokens.now c.args.p c.requires.here m.0 m.1 in
    made_none (size_made _ high here m.2) c.args.depth (c.args.depth - 1) (omega (arith, c.requires.some)) (rw c.in-None.is at c.in_ok-name.ensures)

pub unary_at-returns-in_ok-precede-in-Some-2 : goal.unary_at-returns-in_ok-precede-in-Some-2
unary_at-returns-in_ok-precede-in-Some-2 t c = λ least high.
    let none = measures_none c.args.names.now.typedefs (c.args.at + 1) c.args.tokens.now c.args.p (iff_false c.if-measures_type.ensures refl) in
    let f = rw (c.least_operand.ensures, c.in-Some-2.is) at c.in_ok-inner.ensures in
    rw c.in_ok-precede-in-Some-2.ensures (made_found (unary_made c.args.p _ high c.requires.here none) c.args.depth (c.args.depth - 1) (omega (arith, c.requires.some)) c.args.at (c.args.at + 1) c.args.tokens.now c.in-Some-2.inner (omega arith) f)

pub unary_at-returns-in-None-2 : goal.unary_at-returns-in-None-2
unary_at-returns-in-None-2 t c = λ least high.
    let none = measures_none c.args.names.now.typedefs (c.args.at + 1) c.args.tokens.now c.args.p (iff_false c.if-measures_type.ensures refl) in
    made_none (unary_made c.args.p _ high c.requires.here none) c.args.depth (c.args.depth - 1) (omega (arith, c.requires.some)) (rw (c.least_operand.ensures, c.in-None-2.is) at c.in_ok-inner.ensures)

pub tail-returns-in-Some : goal.tail-returns-in-Some
tail-returns-in-Some t c =
    let f = rw c.in-Some.is at c.in_ok-inner-in-Bracket.ensures in
    rw (c.in-Bracket.is, c.as_subscript.ensures) (made_found (index_made _) c.args.depth c.args.depth (omega arith) c.args.at c.args.at c.args.tokens.now c.in-Some.inner (omega arith) f)

pub tail-returns-in-Some-2 : goal.tail-returns-in-Some-2
tail-returns-in-Some-2 t c =
    let f = rw c.in-Some-2.is at c.in_ok-inner-in-Parenthesis.ensures in
    rw (c.in-Parenthesis.is, c.as_arguments.ensures) (made_found (call_made _) c.args.depth c.args.depth (omega arith) c.args.at c.args.at c.args.tokens.now c.in-Some-2.inner (omega arith) f)

pub tail-returns-in-Select : goal.tail-returns-in-Select
tail-returns-in-Select t c = rw c.in-Select.is (c.selected_at.ensures c.args.names.now.typedefs c.args.depth)

pub tail-returns-in-Step : goal.tail-returns-in-Step
tail-returns-in-Step t c = rw c.in-Step.is (record { best = step_best c.in-Step.q _; counted = refl; after = omega arith; within = c.requires.inside })

pub right_at-returns-in-Some : goal.right_at-returns-in-Some
right_at-returns-in-Some t c =
    let f = rw (c.least_right.ensures, c.in-Some.is) at c.in_ok-inner.ensures in
    rw c.as_right.ensures (made_found (right_made c.args.o _) c.args.depth c.args.depth (omega arith) c.args.at c.args.at c.args.tokens.now c.in-Some.inner (omega arith) f)

pub chosen_at-returns-in_default-2 : goal.chosen_at-returns-in_default-2
chosen_at-returns-in_default-2 t c =
    let f = rw c.in-Some.is at c.in_ok-middle.ensures in
    chosen_none f.best (rw c.in_default-2.is at c.in_ok-last.ensures)

pub chosen_at-returns : goal.chosen_at-returns
chosen_at-returns t c =
    let f = rw c.in-Some.is at c.in_ok-middle.ensures in
    let l = rw c.in-Some-2.is at c.in_ok-last.ensures in
    rw c.as_choice.ensures (record {
      best = chosen_best f.best l.best;
      counted = omega (arith, f.counted, l.counted);
      after = omega (arith, f.after, l.after);
      within = l.within;
    })

pub arguments_at-returns-then-stands : goal.arguments_at-returns-then-stands
arguments_at-returns-then-stands t c =
    let here = c.if-stands.ensures.0 refl in
    rw c.new.ensures (record {
      best = arguments_empty _ (stands_first c.args.at c.args.tokens.now closing here);
      counted = refl;
      after = omega arith;
      within = omega (arith, stands_within c.args.at c.args.tokens.now closing here);
    })

pub arguments_at-returns : goal.arguments_at-returns
arguments_at-returns t c =
    IfOk-weaker c.items_at.result _ _ (λ found h. made_finds (arguments_made (iff_false c.if-stands.ensures refl)) c.args.depth c.args.at c.args.tokens.now found h) c.items_at.ensures

pub items_at-returns-then-stands : goal.items_at-returns-then-stands
items_at-returns-then-stands t c =
    let i = c.loop-values.invariant in
    let f = rw c.in-Some.is at c.in_ok-argument.ensures in
    let here = c.if-stands.ensures.0 refl in
    let b = items_best _ i.leads f.best (stands_first c.in-Some.argument.end c.args.tokens.now closing here) in
    rw c.in_ok-push.ensures.ok (record {
      best = b;
      counted = omega (arith, c.max-height.ensures, i.counted, f.counted, height_push c.loop-values.values c.in-Some.argument.value);
      after = omega (arith, i.after, f.after);
      within = omega (arith, stands_within c.in-Some.argument.end c.args.tokens.now closing here);
    })

pub items_at-returns-then-not-stands : goal.items_at-returns-then-not-stands
items_at-returns-then-not-stands t c =
    let i = c.loop-values.invariant in
    let f = rw c.in-Some.is at c.in_ok-argument.ensures in
    λ xs us w h.
    let p = i.leads.back xs us (w, h) in
    item_unparted f.best (iff_false c.if-stands.ensures refl) (iff_false c.if-not-stands.ensures refl) p.0 us p.2

pub items_at-loop-values-preserved : goal.items_at-loop-values-preserved
items_at-loop-values-preserved t c =
    let i = c.loop-values.invariant in
    let f = rw c.in-Some.is at c.in_ok-argument.ensures in
    let here = c.if-not-stands.ensures.0 refl in
    rw c.in_ok-push.ensures.ok (record {
      leads = leads_on i.leads (item_leads _ f.best (stands_first c.in-Some.argument.end c.args.tokens.now comma here));
      counted = omega (arith, c.max-height.ensures, i.counted, f.counted, height_push c.loop-values.values c.in-Some.argument.value);
      after = omega (arith, i.after, f.after);
    })

pub sizes_at-loop-alloc-preserved-then-stands : goal.sizes_at-loop-alloc-preserved-then-stands
sizes_at-loop-alloc-preserved-then-stands t c =
    let i = c.loop-alloc.invariant in
    let first = stands_first c.loop-alloc.end c.args.tokens.now bracket (c.loop-alloc-test.ensures.0 refl) in
    let ends = c.if-stands.ensures.0 refl in
    let second = stands_first (c.loop-alloc.end + 1) c.args.tokens.now bracket_end ends in
    rw c.in_ok-push.ensures.ok (record {
      leads = leads_on i.leads (empty_leads _ (first ∙ ap (λ v. bracket ∷ v) second));
      counted = omega (arith, i.counted, sizes_height_push c.loop-alloc.sizes None);
      after = omega (arith, i.after);
      within = omega (arith, stands_within (c.loop-alloc.end + 1) c.args.tokens.now bracket_end ends);
    })

pub sizes_at-returns-in_default : goal.sizes_at-returns-in_default
sizes_at-returns-in_default t c = λ xs us w h.
    let i = c.loop-alloc.invariant in
    let first = stands_first c.loop-alloc.end c.args.tokens.now bracket (c.loop-alloc-test.ensures.0 refl) in
    let p = i.leads.back xs us (w, h) in
    size_nowhere _ first (iff_false c.if-stands.ensures refl) (rw c.in_default.is at c.in_ok-size.ensures) p.0 us p.2

pub sizes_at-loop-alloc-preserved : goal.sizes_at-loop-alloc-preserved
sizes_at-loop-alloc-preserved t c =
    let i = c.loop-alloc.invariant in
    let first = stands_first c.loop-alloc.end c.args.tokens.now bracket (c.loop-alloc-test.ensures.0 refl) in
    let f = rw c.in-Some.is at c.in_ok-size.ensures in
    rw c.in_ok-push-2.ensures.ok (record {
      leads = leads_on i.leads (size_leads _ _ first (iff_false c.if-stands.ensures refl) f.best);
      counted = omega (arith, c.max-height.ensures, i.counted, f.counted, sizes_height_push c.loop-alloc.sizes (Some c.in-Some.size.value));
      after = omega (arith, i.after, f.after);
      within = f.within;
    })

pub sizes_at-returns : goal.sizes_at-returns
sizes_at-returns t c =
    let i = c.loop-alloc.invariant in
    record { best = sizes_best i.leads (iff_false c.loop-alloc-test.ensures refl); counted = i.counted; after = i.after; within = i.within }

pub type_at-returns-then-is_empty : goal.type_at-returns-then-is_empty
type_at-returns-then-is_empty t c =
    let s = rw c.in-Some.is at c.in_ok-specs.ensures.found in
    specs_empty c.args.depth (rw (c.is_empty.ensures.0 c.if-is_empty.true) at s)

pub type_at-returns-in_default-2 : goal.type_at-returns-in_default-2
type_at-returns-in_default-2 t c =
    let s = rw c.in-Some.is at c.in_ok-specs.ensures.found in
    let r = c.in_ok-stars.ensures.found in
    sizes_nowhere c.in-Some.specs s c.in_ok-stars.stars r c.args.depth (rw c.in_default-2.is at c.in_ok-sizes.ensures)

pub type_at-returns-then-not-stands : goal.type_at-returns-then-not-stands
type_at-returns-then-not-stands t c =
    let s = rw c.in-Some.is at c.in_ok-specs.ensures.found in
    let r = c.in_ok-stars.ensures.found in
    let f = rw c.in-Some-2.is at c.in_ok-sizes.ensures in
    type_open c.in-Some.specs s c.in_ok-stars.stars r c.args.depth c.in-Some-2.sizes.value _ f.best.stands (iff_false c.if-not-stands.ensures refl)

pub type_at-returns : goal.type_at-returns
type_at-returns t c =
    let s = rw c.in-Some.is at c.in_ok-specs.ensures.found in
    let r = c.in_ok-stars.ensures.found in
    let f = rw c.in-Some-2.is at c.in_ok-sizes.ensures in
    let specs_end = rw c.in-Some.is at c.in_ok-specs.ensures.within in
    let stars_end = c.in_ok-stars.ensures in
    let ends = c.if-not-stands.ensures.0 refl in
    rw c.named.ensures (record {
      best = type_best c.in-Some.specs s c.in_ok-stars.stars r c.args.depth c.in-Some-2.sizes.value _ _ f.best (stands_first c.in-Some-2.sizes.end c.args.tokens.now closing ends) (iff_false c.if-is_empty.ensures refl);
      counted = f.counted ∙ sym (type_sizes c.in_ok-stars.stars c.in-Some-2.sizes.value s);
      after = omega (arith, specs_end.0, stars_end.after, f.after);
      within = omega (arith, stands_within c.in-Some-2.sizes.end c.args.tokens.now closing ends);
    })
