use Rattle.std.proofs.Common.{arith}
use Rattle.po_decl_states.proofs.InDeclarators.{stars_goes}
use Rattle.po_decl_states.proofs.Stepping.{gets_on_ok}
use Rattle.po_decl_states.proofs.declarators.take_declarator.Goals as goal

pub returns-clause-goes : goal.returns-clause-goes
returns-clause-goes c =
    stars_goes c.args.tokens.now.list c.args.to c.args.at _ c.args.lists _ _ c.args.below c.args.level _ c.read_word.result c.in_ok-stars.ensures.found c.read_word.ensures.goes

pub returns-clause-on : goal.returns-clause-on
returns-clause-on c =
    let after = c.in_ok-stars.ensures.after in
    gets_on_ok c.args.tokens.now.list c.args.to c.args.at _ c.args.lists _ _ c.read_word.result after (omega (arith, after)) c.read_word.ensures.on
