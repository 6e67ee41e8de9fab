use Rattle.po_decl_read.proofs.read.read_decl_at.Goals as goal

pub returns-clause-none : goal.returns-clause-none
returns-clause-none c = rw c.in_ok-open_scope.ensures.ok at c.in_ok-found.ensures.none
