use Rattle.std.proofs.Common.{refl, arith, ℕ, [], ◌∷◌, ◌≡◌, ◌≤◌, get_or}
use Rattle.po_straight.specs.Spelling.{newlines}
use Rattle.po_straight.proofs.Fronts.{front_blank, front_sign, front_end, front_stuck, one_line}
use Rattle.po_straight.proofs.lexing.lexemes.Goals as goal

pub loop-at-preserved-then-is_blank : goal.loop-at-preserved-then-is_blank
loop-at-preserved-then-is_blank c =
    let n : ℕ = newlines (get_or c.args.bytes.now c.loop-at.at 0 ∷ []) in
    let few : n ≤ 1 = one_line (get_or c.args.bytes.now c.loop-at.at 0) in
    let e : c.lines_ended-line.result ≡ n = c.lines_ended-line.ensures in
    (omega arith, omega arith, rw e (front_blank _ _ _ _ c.loop-at-test.true (c.if-is_blank.ensures.0 refl) c.loop-at.invariant.2))

pub loop-at-preserved : goal.loop-at-preserved
loop-at-preserved c =
    let stands = rw c.in-Some.is at c.in_ok-sign.ensures.found in
    let ends = rw c.in-Some.is at c.in_ok-sign.ensures.ends in
    let grown = c.in_ok-push-in-Some.ensures.ok in
    (omega arith, omega arith, front_sign _ _ _ _ _ _ _ stands grown c.loop-at.invariant.2)

pub returns-in-None-clause-none : goal.returns-in-None-clause-none
returns-in-None-clause-none c =
    front_stuck _ _ _ _ c.loop-at-test.true (λ b. absurd (cc (c.if-is_blank.ensures.1 b))) (rw c.in-None.is at c.in_ok-sign.ensures.none) c.loop-at.invariant.2

pub returns-clause-found : goal.returns-clause-found
returns-clause-found c = front_end _ _ _ _ c.loop-at-test.false c.loop-at.invariant.2
