use Rattle.std.proofs.Common.{◌≡◌, List, ◌∙◌, sym, rules, arith, subst, true, false, Some, None}
use Rattle.po_base.specs.declared.token.Token.{Token}
use Rattle.po_lex.specs.Brackets.{state_of, ends, step}
use Rattle.po_lex.specs.Pieces.{IsMisshapen}
use Rattle.po_lex.proofs.Nestings.{goes_more, one_piece_more, stuck_there, nothing_yet, open_at_end}
use Rattle.po_lex.proofs.shape.pieces.Goals as goal

pub loop-at-preserved : goal.loop-at-preserved
loop-at-preserved c =
    let tokens : List Token = c.as_slice-list.result.now in
    let on : step (state_of c.loop-at.nesting) c.index-list-at.result ≡ Some (state_of c.step.new.self) = c.in_ok-step.ensures.on c.if-not-branch.false in
    let more : ends (state_of c.loop-at.nesting) c.index-list-at.result ≡ false = sym c.ends-ends.ensures ∙ c.if-ends.false in
    record {
      within = omega (arith, c.loop-at.invariant.within);
      divided = c.loop-at.invariant.divided;
      goes_to = goes_more tokens c.loop-at.from c.loop-at.at c.index-list-at.result c.loop-at.invariant.within c.loop-at-test.true c.index-list-at.is
          (state_of c.loop-at.nesting) c.loop-at.invariant.goes_to (state_of c.step.new.self) more on;
    }

pub returns-then-not-branch-clause-fail : goal.returns-then-not-branch-clause-fail
returns-then-not-branch-clause-fail c =
    let tokens : List Token = c.as_slice-list.result.now in
    let stuck : step (state_of c.loop-at.nesting) c.index-list-at.result ≡ None = c.in_ok-step.ensures.stuck c.if-not-branch.true in
    subst (λ v. IsMisshapen v c.index-list-at.result.own_line) c.as_slice-list.ensures
    (stuck_there tokens c.loop-at.from c.loop-at.at c.index-list-at.result c.loop-at.invariant.within c.loop-at-test.true c.index-list-at.is
    (state_of c.loop-at.nesting) c.loop-at.invariant.goes_to c.loop-at.pieces c.loop-at.invariant.divided stuck)

pub loop-at-preserved-then-ends : goal.loop-at-preserved-then-ends
loop-at-preserved-then-ends c =
    let tokens : List Token = c.as_slice-list.result.now in
    let on : step (state_of c.loop-at.nesting) c.index-list-at.result ≡ Some (state_of c.step.new.self) = c.in_ok-step.ensures.on c.if-not-branch.false in
    let last : ends (state_of c.loop-at.nesting) c.index-list-at.result ≡ true = sym c.ends-ends.ensures ∙ c.if-ends.true in
    record {
      within = omega arith;
      divided = rw c.in_ok-push.ensures.ok (one_piece_more tokens c.loop-at.from c.loop-at.at c.index-list-at.result c.loop-at.invariant.within c.loop-at-test.true c.index-list-at.is
          (state_of c.loop-at.nesting) c.loop-at.invariant.goes_to c.loop-at.pieces _ (state_of c.step.new.self) c.loop-at.invariant.divided last on
          (search rules) (search rules) (search rules));
      goes_to = nothing_yet tokens c.loop-at.at (state_of c.new-nesting-then-ends.result) c.new-nesting-then-ends.ensures;
    }

pub returns-in-Some-clause-fail : goal.returns-in-Some-clause-fail
returns-in-Some-clause-fail c =
    let tokens : List Token = c.as_slice-list.result.now in
    subst (λ v. IsMisshapen v c.in-Some.open.line) c.as_slice-list.ensures
    (open_at_end tokens c.loop-at.from c.loop-at.at c.loop-at.pieces c.loop-at.nesting.open c.pop.new.self c.in-Some.open c.loop-at.nesting.begins c.loop-at-test.false
    c.loop-at.invariant.goes_to c.in-Some.ensures c.loop-at.invariant.divided)
