use Rattle.po_worker.proofs.Held.{freed_no_more}
use Rattle.po_worker.proofs.locked.put_back_if_held.Goals as goal

pub returns-then-held-clause-others : goal.returns-then-held-clause-others
returns-then-held-clause-others g c = freed_no_more c.args.file _ _ c.put_back.ensures.does.steps.effect.0
