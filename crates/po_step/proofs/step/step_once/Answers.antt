use Rattle.po_step.proofs.Stepping.{belongs_split}
use Rattle.po_step.proofs.step.step_once.Goals as goal

pub step_from-requires-clause-belongs : goal.step_from-requires-clause-belongs
step_from-requires-clause-belongs g c = belongs_split c.args.p.now c.args.s.now c.in-Some.running c.pop.new.self c.requires.belongs c.in-Some.ensures
