use Rattle.std.proofs.Common.{All, List, ap, length, refl, subst, sym, ◌∙◌}
use Rattle.po_ir.specs.declared.project.Function.{Function}
use Rattle.step_tests.specs.Bare.{IsBareFunction}
use Rattle.step_tests.proofs.Whole.{built}
use Rattle.step_tests.proofs.building.project.Goals as goal

pub returns : goal.returns
returns c =
    let same = c.parts-project.ensures in
    built c.args.count _ _ _ (subst (All (IsBareFunction c.args.count)) (sym same.0) c.requires) (ap (λ (fs : List Function). length fs) same.0 ∙ c.if-not-are_counted.ensures refl) refl same.1 same.2 c.in_ok-effects.ensures
