use Rattle.std.proofs.Common.{refl, arith, ap, ◌∙◌, ◌≡◌, ◌+◌, ◌∷◌, [], ◌++◌, drop, length, length-append}
use Rattle.po_straight.specs.declared.lexeme.Sign.TheVariants as s
use Rattle.po_straight.specs.Definitions.{signs}
use Rattle.po_straight.specs.Outline.{Leads, with_commas}
use Rattle.po_straight.proofs.Listings.{begins, no_void, void_comma, no_parameter, parameter_twice, grown_by, grown_more}
use Rattle.po_straight.proofs.Placing.{differ_push}
use Rattle.po_straight.proofs.heading.parameters_at.Goals as goal

pub returns-then-stands-2-clause-none : goal.returns-then-stands-2-clause-none
returns-then-stands-2-clause-none c = λ ps left _ e.
    void_comma c.args.lexemes.now c.args.start ps left (c.if-stands.ensures.0 refl) (c.if-stands-2.ensures.0 refl) e

pub returns-then-stands-clause-found : goal.returns-then-stands-clause-found
returns-then-stands-clause-found c =
    rw c.new-parameters.ensures ((begins s.Void c.args.lexemes.now c.args.start (c.if-stands.ensures.0 refl)).0)

pub loop-parameters-init : goal.loop-parameters-init
loop-parameters-init c = rw c.new-parameters.ensures (refl, tt, omega arith, c.requires.inside, λ h. absurd (cc (c.if-stands.ensures.1 h)))

pub returns-in_default-clause-none : goal.returns-in_default-clause-none
returns-in_default-clause-none c = λ ps left _ e.
    no_parameter c.loop-parameters.parameters ps (signs (drop c.args.start c.args.lexemes.now)) (signs (drop c.loop-parameters.at c.args.lexemes.now)) left
    (no_void (drop c.args.start c.args.lexemes.now) c.loop-parameters.invariant.4) c.loop-parameters.invariant.0
    (rw c.in_default.is at c.in_ok-name.ensures.none) e

pub returns-then-not-branch-clause-none : goal.returns-then-not-branch-clause-none
returns-then-not-branch-clause-none c = λ ps left differ e.
    let here : Leads (s.Int ∷ (s.Name c.in-Some.name ∷ [])) (drop c.loop-parameters.at c.args.lexemes.now) (drop (c.loop-parameters.at + 2) c.args.lexemes.now) =
    rw c.in-Some.is at c.in_ok-name.ensures.found in
    let there = (rw c.if-not-branch.true at c.in_ok-insert.ensures.added).1 in
    parameter_twice c.loop-parameters.parameters ps c.in-Some.name (signs (drop c.args.start c.args.lexemes.now)) (signs (drop (c.loop-parameters.at + 2) c.args.lexemes.now)) left
    (no_void (drop c.args.start c.args.lexemes.now) c.loop-parameters.invariant.4)
    (c.loop-parameters.invariant.0 ∙ ap (λ v. with_commas c.loop-parameters.parameters ++ v) here) there differ e

pub returns-then-not-stands-clause-found : goal.returns-then-not-stands-clause-found
returns-then-not-stands-clause-found c =
    let added = rw c.if-not-branch.false at c.in_ok-insert.ensures.added in
    let here : Leads (s.Int ∷ (s.Name c.in-Some.name ∷ [])) (drop c.loop-parameters.at c.args.lexemes.now) (drop (c.loop-parameters.at + 2) c.args.lexemes.now) =
    rw c.in-Some.is at c.in_ok-name.ensures.found in
    grown_by c.loop-parameters.parameters c.insert.new.self c.in-Some.name _ _ _ added.0 c.loop-parameters.invariant.0 here

pub returns-then-not-stands-clause-differ : goal.returns-then-not-stands-clause-differ
returns-then-not-stands-clause-differ c =
    let added = rw c.if-not-branch.false at c.in_ok-insert.ensures.added in
    rw added.0 (differ_push c.loop-parameters.parameters c.in-Some.name c.loop-parameters.invariant.1 added.1)

pub loop-parameters-preserved : goal.loop-parameters-preserved
loop-parameters-preserved c =
    let added = rw c.if-not-branch.false at c.in_ok-insert.ensures.added in
    let here : Leads (s.Int ∷ (s.Name c.in-Some.name ∷ [])) (drop c.loop-parameters.at c.args.lexemes.now) (drop (c.loop-parameters.at + 2) c.args.lexemes.now) =
    rw c.in-Some.is at c.in_ok-name.ensures.found in
    let comma = begins s.Comma c.args.lexemes.now (c.loop-parameters.at + 2) (c.if-not-stands.ensures.0 refl) in
    let longer : length c.insert.new.self ≡ length c.loop-parameters.parameters + 1 =
    ap length added.0 ∙ length-append c.loop-parameters.parameters (c.in-Some.name ∷ []) in (
      grown_more c.loop-parameters.parameters c.insert.new.self c.in-Some.name _ _ _ _ added.0 c.loop-parameters.invariant.0 here comma.0,
      rw added.0 (differ_push c.loop-parameters.parameters c.in-Some.name c.loop-parameters.invariant.1 added.1),
      omega arith,
      omega (arith, comma.1),
      c.loop-parameters.invariant.4,
    )
