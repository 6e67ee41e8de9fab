use Rattle.std.proofs.Common.{◌∙◌}
use Rattle.po_step.specs.Stepping.{library_of}
use Rattle.po_step.proofs.Stepping.{violated}
use Rattle.po_step.proofs.step.step_from.Goals as goal

pub returns : goal.returns
returns g c =
    violated (library_of (g.L.Outcomes.signatures c.args.library.now) (g.L.Library.meaning c.args.library.now) (g.L.Outcomes.outcomes c.args.library.now)) c.args.p.now c.args.support.now c.args.top.now c.args.waiting.now c.args.m.now.blocks
    c.as_slice.result.now c.in-Some.place c.in_ok-index-in-Some.index (c.as_slice.ensures ∙ c.in_ok-list.ensures) c.in-Some.ensures c.in_ok-index-in-Some.ensures c.requires.belongs
