use Rattle.std.proofs.Common.{arith}
use Rattle.po_fun_parts.proofs.Starting.{keyword_behind, keyword_starts}
use Rattle.po_fun_parts.proofs.starts.keyword_start.Goals as goal

pub returns-in_default-clause-none : goal.returns-in_default-clause-none
returns-in_default-clause-none c = λ types s begun left w.
    let none = rw c.in_default.is at (c.in_ok-begun.ensures.none types s) in
    none begun left (keyword_behind c.args.keyword c.requires.first w)

pub returns-clause-found : goal.returns-clause-found
returns-clause-found c = λ types s. keyword_starts c.args.keyword c.requires.first (rw c.in-Some.is at (c.in_ok-begun.ensures.found types s))

pub returns-clause-within : goal.returns-clause-within
returns-clause-within c =
    let place = c.requires.inside in
    let h = rw c.in-Some.is at (c.in_ok-begun.ensures.within (omega (arith, place.0)) (omega (arith, place.1))) in
    (omega (arith, h.0), h.1, h.2)
