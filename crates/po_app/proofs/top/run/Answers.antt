use Rattle.po_app.proofs.Outcomes.{ends_told, write_fault_rose}
use Rattle.po_app.proofs.Completing.{completes, read_fault_decided}
use Rattle.po_app.proofs.top.run.Goals as goal

pub returns-in-Ok-clause-ends : goal.returns-in-Ok-clause-ends
returns-in-Ok-clause-ends g c = ends_told _ _ _ _ _ _ _ c.in-Ok.ensures.decided c.tell.ensures.told

pub returns-in-Ok-clause-write_fault : goal.returns-in-Ok-clause-write_fault
returns-in-Ok-clause-write_fault g c = λ is. write_fault_rose _ _ _ _ _ c.in-Ok.ensures.decided c.tell.ensures.fault is

pub returns-in-Ok-clause-complete : goal.returns-in-Ok-clause-complete
returns-in-Ok-clause-complete g c = λ name bytes ds check holds short file no_read no_write.
    completes _ _ _ _ _ name bytes ds (ends_told _ _ _ _ _ _ _ c.in-Ok.ensures.decided c.tell.ensures.told) check holds short file
    (λ is. no_read (c.in-Ok.ensures.read_fault (read_fault_decided _ _ _ _ _ c.tell.ensures.told is) name check))
    (λ is. no_write (write_fault_rose _ _ _ _ _ c.in-Ok.ensures.decided c.tell.ensures.fault is))
