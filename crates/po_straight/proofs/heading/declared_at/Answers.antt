use Rattle.std.proofs.Common.{refl}
use Rattle.po_straight.specs.declared.lexeme.Sign.TheVariants as s
use Rattle.po_straight.proofs.Listings.{two_signs, second_not}
use Rattle.po_straight.proofs.heading.declared_at.Goals as goal

pub returns-in-Some-clause-found : goal.returns-in-Some-clause-found
returns-in-Some-clause-found c =
    (two_signs s.Int (s.Name c.in-Some.name) c.args.lexemes.now c.args.at (c.if-not-stands.ensures.0 refl) (rw c.in-Some.is at c.in_ok-name.ensures.found)).0

pub returns-in-Some-clause-within : goal.returns-in-Some-clause-within
returns-in-Some-clause-within c =
    (two_signs s.Int (s.Name c.in-Some.name) c.args.lexemes.now c.args.at (c.if-not-stands.ensures.0 refl) (rw c.in-Some.is at c.in_ok-name.ensures.found)).1

pub returns-in-None-clause-none : goal.returns-in-None-clause-none
returns-in-None-clause-none c = λ name left e.
    second_not s.Int (s.Name name) c.args.lexemes.now c.args.at left (c.if-not-stands.ensures.0 refl) ((rw c.in-None.is at c.in_ok-name.ensures.none) name) e
