use Rattle.std.proofs.Common.{refl, ◌+◌, ◌∷◌, [], drop}
use Rattle.po_straight.specs.declared.lexeme.Sign.TheVariants as s
use Rattle.po_straight.specs.Outline.{Leads}
use Rattle.po_straight.proofs.Listings.{begins_not, two_signs, second_not}
use Rattle.po_straight.proofs.Headers.{behind_open, behind_parameters, heading_whole}
use Rattle.po_straight.proofs.heading.heading_at.Goals as goal

pub returns-in_default-2-clause-none : goal.returns-in_default-2-clause-none
returns-in_default-2-clause-none c = λ name ps left differ e.
    let front : Leads (s.Int ∷ (s.Name c.in-Some.name ∷ [])) (drop c.args.at c.args.lexemes.now) (drop (c.args.at + 2) c.args.lexemes.now) =
    rw c.in-Some.is at c.in_ok-name.ensures.found in
    (rw c.in_default-2.is at c.in_ok-parameters.ensures.none) ps (s.OpenBrace ∷ left) differ
    (behind_open c.args.lexemes.now c.args.at c.in-Some.name front name ps left (c.if-not-stands.ensures.0 refl) e)

pub returns-then-not-stands-2-clause-none : goal.returns-then-not-stands-2-clause-none
returns-then-not-stands-2-clause-none c = λ name ps left differ e.
    let front : Leads (s.Int ∷ (s.Name c.in-Some.name ∷ [])) (drop c.args.at c.args.lexemes.now) (drop (c.args.at + 2) c.args.lexemes.now) =
    rw c.in-Some.is at c.in_ok-name.ensures.found in
    let behind = behind_parameters c.args.lexemes.now c.args.at c.in-Some.name front name ps c.in-Some-2.parameters c.in-Some-2.end left
    (c.if-not-stands.ensures.0 refl) (rw c.in-Some-2.is at c.in_ok-parameters.ensures.found) (rw c.in-Some-2.is at c.in_ok-parameters.ensures.last) e in
    begins_not s.Close (drop c.in-Some-2.end c.args.lexemes.now) (s.OpenBrace ∷ left) (λ h. absurd {A = ⊥} (cc (c.if-not-stands-2.ensures.1 h))) behind

pub returns-then-not-stands-3-clause-none : goal.returns-then-not-stands-3-clause-none
returns-then-not-stands-3-clause-none c = λ name ps left differ e.
    let front : Leads (s.Int ∷ (s.Name c.in-Some.name ∷ [])) (drop c.args.at c.args.lexemes.now) (drop (c.args.at + 2) c.args.lexemes.now) =
    rw c.in-Some.is at c.in_ok-name.ensures.found in
    let behind = behind_parameters c.args.lexemes.now c.args.at c.in-Some.name front name ps c.in-Some-2.parameters c.in-Some-2.end left
    (c.if-not-stands.ensures.0 refl) (rw c.in-Some-2.is at c.in_ok-parameters.ensures.found) (rw c.in-Some-2.is at c.in_ok-parameters.ensures.last) e in
    second_not s.Close s.OpenBrace c.args.lexemes.now c.in-Some-2.end left (c.if-not-stands-2.ensures.0 refl)
    (λ h. absurd {A = ⊥} (cc (c.if-not-stands-3.ensures.1 h))) behind

pub returns-clause-found : goal.returns-clause-found
returns-clause-found c =
    let front : Leads (s.Int ∷ (s.Name c.in-Some.name ∷ [])) (drop c.args.at c.args.lexemes.now) (drop (c.args.at + 2) c.args.lexemes.now) =
    rw c.in-Some.is at c.in_ok-name.ensures.found in
    heading_whole c.args.lexemes.now c.args.at c.in-Some.name front c.in-Some-2.parameters c.in-Some-2.end (c.if-not-stands.ensures.0 refl)
    (rw c.in-Some-2.is at c.in_ok-parameters.ensures.found)
    (two_signs s.Close s.OpenBrace c.args.lexemes.now c.in-Some-2.end (c.if-not-stands-2.ensures.0 refl) (c.if-not-stands-3.ensures.0 refl)).0
