use Rattle.std.proofs.Common.{refl, arith, inl, inr}
use Rattle.std.proofs.lemmas.Bool.{iff_false}
use Rattle.po_fun_parts.proofs.Behind.{no_for, no_for_steps, for_stands}
use Rattle.po_fun_parts.proofs.behind_keywords.for_start.Goals as goal

pub returns-then-not-stands-clause-none : goal.returns-then-not-stands-clause-none
returns-then-not-stands-clause-none c = λ types s begun left w. no_for (iff_false c.if-not-stands.ensures.first refl) w

pub returns-in_default-clause-found : goal.returns-in_default-clause-found
returns-in_default-clause-found c = λ types s.
    inr (refl, record { opens = c.if-not-stands.ensures.behind; others = rw c.in_default.is at (c.in_ok-first.ensures.none types s) })

pub returns-in_default-2-clause-none : goal.returns-in_default-2-clause-none
returns-in_default-2-clause-none c = λ types s begun left w.
    no_for_steps c.if-not-stands.ensures.behind (rw c.in-Some.is at (c.in_ok-first.ensures.found types s)) (rw c.in_default-2.is at (c.in_ok-test.ensures.none types s)) w

pub returns-clause-found : goal.returns-clause-found
returns-clause-found c = λ types s.
    inl (_, _, _, refl, for_stands c.if-not-stands.ensures.behind (rw c.in-Some.is at (c.in_ok-first.ensures.found types s)) (rw c.in-Some-2.is at (c.in_ok-test.ensures.found types s)))

pub returns-clause-within : goal.returns-clause-within
returns-clause-within c = λ low inside.
    let first = rw c.in-Some.is at c.in_ok-first.ensures.within in
    let second = rw c.in-Some-2.is at c.in_ok-test.ensures.within in
    (omega (arith, first.0, second.0), second.1, second.2)
