use Rattle.std.proofs.Common.{refl}
use Rattle.std.proofs.lemmas.Bool.{iff_false}
use Rattle.po_fun_parts.proofs.Parentheses.{no_parenthesis, inside_parentheses}
use Rattle.po_fun_parts.proofs.heads.parenthesised_at.Goals as goal

pub returns-then-not-stands-clause-none : goal.returns-then-not-stands-clause-none
returns-then-not-stands-clause-none c = λ types s x left w. no_parenthesis (iff_false c.if-not-stands.ensures.first refl) w

pub returns-in_default-clause-none : goal.returns-in_default-clause-none
returns-in_default-clause-none c = λ types s x left w.
    let none = rw c.in_default.is at (c.in_ok-x.ensures.none types s) in
    none x left (inside_parentheses c.if-not-stands.ensures.behind w)

pub returns-clause-found : goal.returns-clause-found
returns-clause-found c = λ types s.
    record { inside = _; opens = c.if-not-stands.ensures.behind; value = rw c.in-Some.is at (c.in_ok-x.ensures.found types s) }
