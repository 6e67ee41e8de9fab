use Rattle.std.proofs.Common.{arith}
use Rattle.po_decl_parts.proofs.FirstWords.{stands_word, stands_reads, stands_at_word}
use Rattle.po_decl_parts.proofs.specifiers.specifier_at.Goals as goal

pub returns-in_default-clause-none : goal.returns-in_default-clause-none
returns-in_default-clause-none c = λ types s spec free' behind seen' us w. c.in_default.ensures.first (stands_word w)

pub returns-in_default-2-clause-none : goal.returns-in_default-2-clause-none
returns-in_default-2-clause-none c = λ types s spec free' behind seen' us w.
    let none = rw c.in_default-2.is at (c.in_ok-found.ensures.none types s) in
    none spec free' behind seen' us (stands_reads c.in-Some.ensures.first w)

pub returns-clause-found : goal.returns-clause-found
returns-clause-found c = λ types s.
    let f = rw c.in-Some-2.is at (c.in_ok-found.ensures.found types s) in
    (f.0, stands_at_word c.in-Some.ensures.first f.1, f.2)

pub returns-clause-within : goal.returns-clause-within
returns-clause-within c =
    let w = c.in-Some.ensures.within in
    let h = rw c.in-Some-2.is at (c.in_ok-found.ensures.within (omega (arith, w.0)) (omega (arith, w.1))) in
    (omega (arith, h.0), h.1, h.2)
