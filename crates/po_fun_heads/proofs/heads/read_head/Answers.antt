use Rattle.po_fun_heads.proofs.InsideHeads.{entered}
use Rattle.po_fun_heads.proofs.AsDeclarations.{none_read, none_opens}
use Rattle.po_fun_heads.proofs.heads.read_head.Goals as goal

pub returns-in_default-clause-none : goal.returns-in_default-clause-none
returns-in_default-clause-none c = none_opens (rw c.in_default.is at c.in_ok-head.ensures.none)

pub returns-in_default-2-clause-none : goal.returns-in_default-2-clause-none
returns-in_default-2-clause-none c =
    none_read (rw c.in-Some.is at c.in_ok-head.ensures.found) (rw c.in_default-2.is at c.in_ok-specs.ensures.none)

pub returns-clause-found : goal.returns-clause-found
returns-clause-found c =
    entered _ _ _ (rw c.in-Some.is at c.in_ok-head.ensures.found) (rw c.in-Some-2.is at c.in_ok-specs.ensures.found) c.in_ok-specs.ensures.kept
    c.in_ok-open_scope.ensures.ok c.in_ok-specs-2.ensures.hides c.in_ok-specs-2.ensures.same.0 c.in_ok-specs-2.ensures.same.1
