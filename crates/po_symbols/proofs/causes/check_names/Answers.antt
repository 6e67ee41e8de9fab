use Rattle.std.proofs.Common.{sym, ◌∙◌, subst}
use Rattle.po_symbols.specs.Causes.{IsAnswer}
use Rattle.po_symbols.proofs.Answered.{answered}
use Rattle.po_symbols.proofs.causes.check_names.Goals as goal

pub returns-in-Some-clause-err : goal.returns-in-Some-clause-err
returns-in-Some-clause-err c =
    let units = c.args.units.now in
    subst (IsAnswer units) (sym c.answer.ensures ∙ c.in-Some.is) (answered units c.in_ok-bodies.bodies c.in_ok-types.types (c.in_ok-bodies.ensures units c.in_ok-all_bodies.ensures) (c.in_ok-types.ensures units c.in_ok-all_types.ensures))

pub returns-in-None-clause-ok : goal.returns-in-None-clause-ok
returns-in-None-clause-ok c =
    let units = c.args.units.now in
    subst (IsAnswer units) (sym c.answer.ensures ∙ c.in-None.is) (answered units c.in_ok-bodies.bodies c.in_ok-types.types (c.in_ok-bodies.ensures units c.in_ok-all_bodies.ensures) (c.in_ok-types.ensures units c.in_ok-all_types.ensures))
