use Rattle.std.proofs.Common.{rules, FitsSigned}
use Rattle.std.specs.Int.{w128}
use Rattle.po_choices.proofs.ZeroLeaves.{no_character, character_tested}
use Rattle.po_choices.proofs.zeros.is_zero_character.Goals as goal

pub returns-in-None : goal.returns-in-None
returns-in-None c = λ scope. no_character scope c.args.text.now c.bytes.result.now c.bytes.ensures c.in-None.ensures

pub returns-in-Some : goal.returns-in-Some
returns-in-Some c =
    let fits : FitsSigned w128 c.in-Some.value = search rules in
    λ scope. character_tested scope c.args.text.now c.bytes.result.now c.bytes.ensures c.in-Some.value fits c.in-Some.ensures
