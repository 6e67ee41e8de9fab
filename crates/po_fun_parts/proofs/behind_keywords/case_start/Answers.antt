use Rattle.std.proofs.Common.{refl, arith}
use Rattle.std.proofs.lemmas.Bool.{iff_false}
use Rattle.po_fun_parts.proofs.Ending.{constant_ended, no_colon_constant, constant_before}
use Rattle.po_fun_parts.proofs.behind_keywords.case_start.Goals as goal

pub returns-in_default-clause-none : goal.returns-in_default-clause-none
returns-in_default-clause-none c = λ types s begun left w.
    let none = rw c.in_default.is at (c.in_ok-x.ensures.none types s) in
    none w.0 _ (constant_ended w.2)

pub returns-then-not-stands-clause-none : goal.returns-then-not-stands-clause-none
returns-then-not-stands-clause-none c = λ types s begun left w.
    no_colon_constant (rw c.in-Some.is at (c.in_ok-x.ensures.found types s)) (iff_false c.if-not-stands.ensures.first refl) w.0 left w.2

pub returns-clause-found : goal.returns-clause-found
returns-clause-found c = λ types s. (_, refl, constant_before c.if-not-stands.ensures.behind (rw c.in-Some.is at (c.in_ok-x.ensures.found types s)))
