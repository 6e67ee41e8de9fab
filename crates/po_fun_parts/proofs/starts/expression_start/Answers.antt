use Rattle.po_fun_parts.specs.Starting.{expression}
use Rattle.po_fun_parts.proofs.starts.expression_start.Goals as goal

pub returns-clause-found : goal.returns-clause-found
returns-clause-found c = λ types s. expression _ _ _ (rw c.in-Some.is at (c.in_ok-x.ensures.found types s))

pub returns-in_default-clause-none : goal.returns-in_default-clause-none
returns-in_default-clause-none c = λ types s. rw c.in_default.is at (c.in_ok-x.ensures.none types s)
