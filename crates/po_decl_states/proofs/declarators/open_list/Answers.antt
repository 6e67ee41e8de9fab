use Rattle.po_decl_states.proofs.InDeclarators.{list_goes}
use Rattle.po_decl_states.proofs.declarators.open_list.Goals as goal

pub returns-clause-goes : goal.returns-clause-goes
returns-clause-goes c = λ tokens to shut.
    rw (c.new.ensures, c.new-2.ensures) (list_goes tokens to c.args.at c.args.lists _ _ c.args.below _ c.args.level c.args.stars c.args.word c.in_ok-push.ensures.ok c.in_ok-open_scope.ensures.ok shut)
