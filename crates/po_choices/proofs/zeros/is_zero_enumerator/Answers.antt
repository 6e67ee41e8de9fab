use Rattle.std.proofs.Common.{rules, FitsSigned}
use Rattle.std.specs.Int.{w128}
use Rattle.po_choices.proofs.ZeroLeaves.{enumerator_tested}
use Rattle.po_choices.proofs.zeros.is_zero_enumerator.Goals as goal

pub returns-in-Some : goal.returns-in-Some
returns-in-Some c =
    let fits : FitsSigned w128 c.in-Some.value = search rules in
    enumerator_tested c.args.context.now c.args.name.now c.in-Some.value fits c.in-Some.ensures
