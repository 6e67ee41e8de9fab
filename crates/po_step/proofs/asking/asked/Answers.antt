use Rattle.std.specs.Prelude.{◌++◌, List}
use Rattle.std.proofs.Common.{ap, ◌∙◌}
use Rattle.po_meaning.specs.Checks.{Asked, primaries}
use Rattle.po_step.proofs.Fitting.{takes_all}
use Rattle.po_step.proofs.asking.asked.Goals as goal

pub returns : goal.returns
returns g c =
    c.in_ok-add_all.ensures
    ∙ (ap (λ (xs : List Asked). xs ++ c.as_slice.result.now) c.in_ok-list.ensures
    ∙ ap (λ (ys : List Asked). primaries (g.L.Library.meaning c.args.library.now) c.args.p.now c.args.f c.args.n ++ ys) (c.as_slice.ensures ∙ c.in_ok-more.ensures))

pub supports-requires : goal.supports-requires
supports-requires g c = takes_all c.requires.whole.0 c.args.p.now c.requires.whole.1 c.args.report.now.lines c.requires.supports
