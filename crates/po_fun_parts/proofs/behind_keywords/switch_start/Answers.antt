use Rattle.std.proofs.Common.{refl}
use Rattle.po_fun_parts.proofs.behind_keywords.switch_start.Goals as goal

pub returns-in_default-clause-none : goal.returns-in_default-clause-none
returns-in_default-clause-none c = λ types s begun left w.
    let none = rw c.in_default.is at (c.in_ok-x.ensures.none types s) in
    none w.0 left w.2

pub returns-clause-found : goal.returns-clause-found
returns-clause-found c = λ types s. (_, refl, rw c.in-Some.is at (c.in_ok-x.ensures.found types s))
