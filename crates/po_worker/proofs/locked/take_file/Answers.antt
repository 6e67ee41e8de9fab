use Rattle.po_worker.proofs.Handed.{told}
use Rattle.po_worker.proofs.locked.take_file.Goals as goal

pub returns : goal.returns
returns g c = told g.J.Naming.book c.args.worker _ _ c.in_ok-next.next c.in_ok-next.ensures.ok c.keeps_its_facts.ensures
