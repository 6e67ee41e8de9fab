use Rattle.po_decl_states.proofs.AtSpecifiers.{specifier_goes}
use Rattle.po_decl_states.proofs.specifiers.put_specifier.Goals as goal

pub returns-clause-goes : goal.returns-clause-goes
returns-clause-goes c = λ tokens at to before behind p o f.
    specifier_goes tokens to at c.args.lists before behind c.args.below c.args.level c.args.found _ c.in_ok-push.ensures.ok p o f
