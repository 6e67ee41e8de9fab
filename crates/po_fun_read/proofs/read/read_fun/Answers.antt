use Rattle.po_fun_read.proofs.Joined.{definition_stands, definition_parts}
use Rattle.po_fun_read.proofs.read.read_fun.Goals as goal

pub returns-in_default-clause-none : goal.returns-in_default-clause-none
returns-in_default-clause-none c = λ g w.
    let none = rw c.in_default.is at c.in_ok-head.ensures.none in
    none g.specs g.declarator g.body (definition_parts g w)

pub returns-clause-found : goal.returns-clause-found
returns-clause-found c = definition_stands (rw c.in-Some.is at c.in_ok-head.ensures.found) c.in_ok-marks.ensures
